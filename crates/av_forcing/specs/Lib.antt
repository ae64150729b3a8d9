pub mod Forcing
pub mod Steps
pub mod Bounds
