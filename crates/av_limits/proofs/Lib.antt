mod Sorting
mod Sums
mod Limits
