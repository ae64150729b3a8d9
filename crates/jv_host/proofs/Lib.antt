pub mod ClassNames
pub mod Listing
pub mod Rules
pub mod TwinLemmas
pub mod CountLemmas
pub mod FileLemmas
