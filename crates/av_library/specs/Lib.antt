pub mod Told
pub mod Counting
pub mod History
pub mod Steps
