pub mod Appending
pub mod Inner
pub mod Named
