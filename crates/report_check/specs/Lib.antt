pub mod Ends
pub mod Verdict
