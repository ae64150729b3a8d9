pub mod Beginning
pub mod Staying
