pub mod FitLaws
pub mod Held
pub mod ResidualLaws
pub mod Search
