pub mod Cutting
pub mod Reading
pub mod ResidualLaws
pub mod ValueSpelling
