pub mod PartLaws
pub mod BlockLaws
pub mod DescriptionLaws
pub mod HeadLaws
pub mod NextLaws
pub mod SumLaws
