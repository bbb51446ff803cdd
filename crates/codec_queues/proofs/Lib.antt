pub mod Rising
pub mod Room
pub mod Carried
pub mod Counting
mod Roomy
