pub mod Blocks
pub mod Copies
pub mod Descriptions
pub mod Frames
pub mod Status
pub mod Streams
