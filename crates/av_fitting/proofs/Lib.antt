pub mod Anywhere
pub mod Near
pub mod Finished
