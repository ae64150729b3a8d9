pub mod Appended
pub mod Forced
