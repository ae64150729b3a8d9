pub mod Conditions
pub mod Sketches
