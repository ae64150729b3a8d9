mod FirstFailures
mod FirstFiles
mod Instructions
mod Failing
mod Ordering
mod Stages
mod Comparing
