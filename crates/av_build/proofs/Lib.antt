mod Lists
mod Distinct
mod Complete
mod Parts
mod Causes
mod Built
mod Outcomes
