pub mod Typing
pub mod Parts
pub mod Finding
pub mod Rules
pub mod Transitions
pub mod References
pub mod Steps
pub mod TypeSafe
