pub mod Grown
pub mod Answers
pub mod Ports
pub mod PortMedia
pub mod Entries
pub mod Moves
pub mod Orders
pub mod Same
