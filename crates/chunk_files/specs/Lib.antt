pub mod Layout
pub mod Grammar
pub mod Stops
pub mod Written
