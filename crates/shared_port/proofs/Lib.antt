pub mod Accounts
pub mod Lines
pub mod Mouths
pub mod Rules
