pub mod At
pub mod Refs
pub mod Steps
