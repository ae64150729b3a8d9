pub mod Instructions
pub mod Frames
pub mod Rows
pub mod Making
pub mod Calling
pub mod Methods
pub mod Recipes
