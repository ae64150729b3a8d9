mod Moves
pub mod TypingOnce
pub mod Popping
mod Storing
