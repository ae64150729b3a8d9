pub mod Appending
pub mod Inner
