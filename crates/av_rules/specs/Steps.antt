-- What private clauses cite.
pub mod Kept
pub mod Making
pub mod Programs
pub mod Selecting
pub mod Tables
