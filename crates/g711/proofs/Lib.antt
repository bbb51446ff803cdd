pub mod AlawCodes
mod Codes
pub mod Segments
pub mod UlawCodes
mod SliceLaws
mod TableLaws
