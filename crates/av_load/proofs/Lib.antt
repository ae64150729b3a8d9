mod FileNames
pub mod Told
mod Sources
mod Stops
mod Underway
mod Sorting
mod Next
mod Whole
mod Judging
