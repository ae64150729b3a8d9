mod Answering
mod Entering
mod PlainMethods
mod RightKinds
pub mod Standing
mod Typing
