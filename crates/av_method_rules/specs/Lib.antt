pub mod Files
pub mod Stopping
pub mod Steps
