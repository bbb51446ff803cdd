pub mod Descent
pub mod HeldLaws
pub mod Least
pub mod ResidualLaws
pub mod Rows
pub mod Sizes
pub mod Spelled
pub mod Windows
