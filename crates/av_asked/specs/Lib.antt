pub mod Asking
pub mod Sources
pub mod Read
