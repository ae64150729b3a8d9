pub mod Graph
pub mod Sides
