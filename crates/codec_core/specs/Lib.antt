pub mod Job
pub mod Trace
pub mod Codec
pub mod Owning
pub mod ReplyLaws
