pub mod Fileable
