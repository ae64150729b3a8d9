-- The printed lines of the facts of one class, and what they cover.
pub mod Lines
pub mod Covered
pub mod Adding
