-- What only private functions say.
pub mod Building
pub mod Causes
pub mod Kept
pub mod Ordered
pub mod Ranks
