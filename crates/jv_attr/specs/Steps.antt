-- What only private functions say.
pub mod AttrReading
pub mod Few
