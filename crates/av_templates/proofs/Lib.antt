pub mod Adding
pub mod Begun
pub mod Landing
pub mod Params
