-- What only private functions say.
pub mod Finals
