pub mod FileKinds
pub mod Promise
pub mod Answers
pub mod Ending
pub mod Graphs
