pub mod Segments
pub mod Vector
