pub mod Earlier
pub mod LeastLaws
pub mod Numbers
pub mod Ranges
pub mod Residuals
pub mod Settled
pub mod Shortest
pub mod Skipped
