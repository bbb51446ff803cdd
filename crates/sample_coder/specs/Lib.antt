pub mod Coding
pub mod Value
