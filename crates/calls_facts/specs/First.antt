-- The facts of one class, closed under named rules, and what they cover.
pub mod Names
pub mod Depths
pub mod Rules
pub mod Forcing
pub mod Orders
pub mod Closing
pub mod Prepared
pub mod Covered
