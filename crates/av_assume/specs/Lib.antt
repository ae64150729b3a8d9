pub mod Assumption
pub mod LibraryMoves
pub mod Runs
