pub mod Pools
pub mod Steps
pub mod Lent
pub mod Ends
pub mod Entries
pub mod Standing
pub mod ContentLaws
