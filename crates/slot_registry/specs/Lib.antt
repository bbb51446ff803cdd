pub mod Boxes
pub mod Slots
pub mod Places
pub mod IdLaws
pub mod NumberLaws
pub mod HistoryLaws
