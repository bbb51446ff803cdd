pub mod HeaderLaws
pub mod NumberLaws
pub mod Shifts
pub mod Words
