pub mod Built
pub mod Finishing
pub mod Mapping
pub mod Planning
pub mod Steps
