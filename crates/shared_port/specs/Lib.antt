pub mod Accounts
pub mod Mouths
pub mod Ports
pub mod Rule
pub mod Steps
pub mod Views
