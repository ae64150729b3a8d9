pub mod Sketched
