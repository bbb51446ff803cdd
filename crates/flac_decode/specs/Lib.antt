pub mod Bounds
pub mod Coder
pub mod FrameEnd
pub mod Reading
pub mod Shortness
