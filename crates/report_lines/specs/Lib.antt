pub mod Words
pub mod Fields
pub mod FieldLaws
pub mod Fits
pub mod Vocabulary
pub mod Reading
pub mod Laws
