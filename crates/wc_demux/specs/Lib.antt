pub mod Parts
pub mod Facts
pub mod Wav
pub mod Flac
pub mod Media
pub mod Within
