pub mod Desk
pub mod Player
pub mod Ports
