pub mod ClassTexts
pub mod MethodCodes
pub mod Shapes
pub mod Writing
pub mod Steps
