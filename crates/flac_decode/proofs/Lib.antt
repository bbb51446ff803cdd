pub mod ProductLaws
pub mod RestoreLaws
pub mod FrameLaws
pub mod FrameEndLaws
mod Drained
mod Served
mod ShortLaws
mod StereoLaws
pub mod FoundLaws
