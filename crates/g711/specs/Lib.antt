pub mod Laws
pub mod Segments
pub mod Slices
pub mod Tables
