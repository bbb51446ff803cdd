pub mod Buffers
pub mod Transfers
