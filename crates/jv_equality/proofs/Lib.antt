pub mod EqualTypes
pub mod Exact
pub mod Layers
pub mod PlainTypes
pub mod ToldApart
