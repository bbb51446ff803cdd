pub mod Tries
pub mod Told
pub mod Paid
pub mod PoolPaid
pub mod Reclaims
pub mod Quiet
pub mod Fits
