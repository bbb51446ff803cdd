pub mod Accounts
pub mod Contents
pub mod OwnLaws
