pub mod FrameText
pub mod AttrText
pub mod Steps
