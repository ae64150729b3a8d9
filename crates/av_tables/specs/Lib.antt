pub mod Mentions
pub mod Tables
pub mod Steps
