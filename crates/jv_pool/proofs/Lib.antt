pub mod Texts
pub mod Loops
pub mod Units
pub mod Widths
pub mod ItemReading
pub mod PoolLaws
pub mod ItemsTold
pub mod AddingLaws
