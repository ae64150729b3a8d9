pub mod Agreement
pub mod DescReading
pub mod Fronts
pub mod Layers
pub mod RefReading
