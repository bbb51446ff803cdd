pub mod Marks
pub mod Stock
