pub mod Chunks
pub mod Faults
pub mod OneReading
pub mod WrittenLaws
pub mod Whole
