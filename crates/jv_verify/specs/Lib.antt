pub mod Verified
pub mod Steps
