pub mod SameClasses
pub mod Renumbering
pub mod Agreeing
pub mod Types
