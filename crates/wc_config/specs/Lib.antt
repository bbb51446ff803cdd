pub mod Configs
pub mod Streams
