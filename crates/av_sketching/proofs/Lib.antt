pub mod Kept
pub mod Shaped
