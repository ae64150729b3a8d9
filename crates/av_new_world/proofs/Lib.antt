pub mod Kept
pub mod Elements
pub mod Places
pub mod Numbered
pub mod Members
pub mod Supers
pub mod Ranks
pub mod There
