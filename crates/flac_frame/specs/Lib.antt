pub mod HeaderLaws
pub mod HeaderSums
pub mod Reading
pub mod WholeHeaderLaws
