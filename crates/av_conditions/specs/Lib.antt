pub mod Conditions
pub mod CoreClasses
pub mod Initialisers
pub mod Members
pub mod RightReferences
pub mod StandIn
