pub mod Spellings
pub mod PoolNames
pub mod Naming
pub mod Finding
pub mod Steps
