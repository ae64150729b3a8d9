pub mod Types
pub mod Assignable
pub mod Entry
pub mod Maps
pub mod Finding
pub mod Steps
