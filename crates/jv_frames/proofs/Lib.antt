pub mod Arrays
mod Pairs
mod Supers
mod Composing
mod References
pub mod Determined
mod Mapping
pub mod OneAnswer
mod Written
