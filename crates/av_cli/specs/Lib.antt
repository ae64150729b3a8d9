pub mod Outside
pub mod Calls
pub mod Verifying
pub mod Commands
