pub mod Rising
pub mod Labels
pub mod Sent
pub mod Queues
pub mod Kept
