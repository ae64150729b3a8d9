-- What only private clauses say.
pub mod Parts
