pub mod Lists
pub mod Reading
pub mod Spelling
pub mod Writing
