pub mod Listing
pub mod Seeds
pub mod Steps
