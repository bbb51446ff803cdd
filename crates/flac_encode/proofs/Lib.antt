pub mod Counts
pub mod Described
pub mod Filled
pub mod Meets
pub mod Runs
pub mod Served
pub mod Steps
