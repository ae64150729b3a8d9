-- Definitions that only private clauses cite.
pub mod Finding
pub mod Reading
pub mod Rows
pub mod Writing
