pub mod Follow
pub mod Outputs
pub mod Laws
pub mod Followed
pub mod Errors
pub mod Erased
