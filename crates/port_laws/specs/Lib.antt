pub mod PortAccounts
pub mod Ranks
