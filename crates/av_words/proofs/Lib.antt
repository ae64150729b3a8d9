pub mod FirstWords
pub mod Reading
