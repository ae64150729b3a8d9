pub mod Bodies
pub mod Frames
pub mod NameForms
pub mod Quantities
pub mod Rules
pub mod Types
