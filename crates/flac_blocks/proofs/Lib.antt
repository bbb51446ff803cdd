pub mod Choices
pub mod Written
