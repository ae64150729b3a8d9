-- What only private functions say.
pub mod Reading
