pub mod DataLaws
pub mod LookupLaws
pub mod NumberLaws
pub mod RangeLaws
