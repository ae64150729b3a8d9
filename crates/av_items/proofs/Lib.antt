pub mod Alone
pub mod Dims
pub mod Handling
pub mod Joined
