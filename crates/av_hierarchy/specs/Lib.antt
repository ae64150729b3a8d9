pub mod Hierarchy
pub mod Refused
pub mod Steps
