mod ConfigLaws
mod FileLaws
mod ReferenceLaws
mod SourceLaws
mod MediaLaws
pub mod StepLaws
mod NumberLaws
mod PlaceLaws
mod Positions
mod PortTables
mod BufferLaws
mod UseLaws
mod StepTables
mod WithinLaws
