pub mod Names
pub mod Sound
pub mod Places
pub mod Limits
pub mod Reading
pub mod SoundLaws
