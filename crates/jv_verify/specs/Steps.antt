pub mod Forcing
pub mod Checking
