pub mod Deeds
pub mod PortDeeds
pub mod Passes
pub mod PortActs
pub mod Acts
pub mod Lending
pub mod Takes
