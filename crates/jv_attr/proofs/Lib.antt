pub mod FrameLaws
pub mod AttrLaws
pub mod FewLaws
pub mod WriteLaws
