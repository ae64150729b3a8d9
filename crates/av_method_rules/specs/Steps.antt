pub mod Decoded
pub mod Until
