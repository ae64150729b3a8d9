pub mod Lists
pub mod Moves
pub mod ReadLemmas
pub mod RoundLemmas
