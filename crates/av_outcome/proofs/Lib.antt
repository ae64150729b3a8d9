pub mod Sinks
pub mod ShownText
pub mod FlatMaps
pub mod Done
