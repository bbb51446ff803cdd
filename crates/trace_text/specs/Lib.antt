pub mod Numbered
pub mod Report
pub mod Behind
pub mod Written
