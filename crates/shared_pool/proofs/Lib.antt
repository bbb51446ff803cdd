pub mod Live
pub mod Passages
