pub mod Asked
pub mod Keys
