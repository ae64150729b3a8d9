pub mod Building
pub mod Each
pub mod There
