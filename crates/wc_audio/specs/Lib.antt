pub mod Copies
pub mod Sound
