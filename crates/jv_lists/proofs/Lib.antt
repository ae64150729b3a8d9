pub mod Among
pub mod Places
pub mod Tests
pub mod Zips
