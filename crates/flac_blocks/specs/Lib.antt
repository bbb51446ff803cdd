pub mod CodedLaws
pub mod Search
