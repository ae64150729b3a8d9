pub mod Worlds
pub mod Instances
pub mod MemberPlaces
pub mod Refusals
pub mod Whole
pub mod Steps
