pub mod FirstState
pub mod GoingOn
pub mod KeptKinds
pub mod NeverWanting
pub mod Raised
pub mod Staying
pub mod WordsGo
