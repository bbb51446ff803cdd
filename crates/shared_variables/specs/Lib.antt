pub mod Ports
pub mod PortLaws
pub mod Since
