pub mod SubframeLaws
pub mod FrameLaws
