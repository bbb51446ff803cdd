pub mod Promises
pub mod Ends
pub mod Outputs
pub mod Steps
pub mod Recorded
mod Replies
pub mod Owning
