pub mod Texts
pub mod Adding
pub mod Told
pub mod Runs
