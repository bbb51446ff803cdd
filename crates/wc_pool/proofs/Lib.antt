pub mod Counts
pub mod Steps
pub mod Places
pub mod Moves
pub mod Legal
pub mod Once
