pub mod PoolText
pub mod Lookups
pub mod Adding
pub mod Steps
