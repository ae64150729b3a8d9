pub mod Deciding
pub mod Descriptors
pub mod Rules
pub mod Classes
pub mod ShapeLemmas
