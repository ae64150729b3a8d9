pub mod Choices
pub mod Naming
pub mod Rising
