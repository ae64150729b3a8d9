pub mod Adding
pub mod Names
pub mod Wholes
pub mod Asked
