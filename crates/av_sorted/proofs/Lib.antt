pub mod Just
pub mod Ordered
