pub mod Adding
mod Showing
