-- What only private functions say.
pub mod Mapping
pub mod Pairs
