pub mod Names
pub mod Lists
pub mod Codes
pub mod Templates
pub mod Items
pub mod Classes
pub mod Files
pub mod Worlds
