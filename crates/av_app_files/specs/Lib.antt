pub mod Folders
pub mod FileRules
pub mod Counting
pub mod Reading
