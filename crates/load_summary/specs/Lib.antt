pub mod Summary
pub mod Tally
pub mod Lacks
