pub mod Lists
mod Ranked
pub mod Parts
pub mod Same
mod Growing
mod Reading
mod Answering
mod Ending
