mod Long
mod Reading
mod OneReading
pub mod SomeReading
mod WithinLaws
