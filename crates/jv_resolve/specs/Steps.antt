-- What only private functions say.
pub mod Among
pub mod Targets
pub mod Wanted
