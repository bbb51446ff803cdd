pub mod Leasts
pub mod Search
