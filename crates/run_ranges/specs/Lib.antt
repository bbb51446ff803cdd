pub mod Ranges
pub mod Counts
