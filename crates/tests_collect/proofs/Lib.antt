pub mod Walks
pub mod BoundLemmas
pub mod LibraryLemmas
pub mod FoundLemmas
pub mod GivenLemmas
