pub mod Head
pub mod Reading
pub mod Next
pub mod Sums
