pub mod NamedOnce
pub mod Refused
