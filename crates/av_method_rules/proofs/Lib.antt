pub mod Standing
pub mod Members
pub mod Typed
pub mod Until
pub mod Worlds
pub mod Next
