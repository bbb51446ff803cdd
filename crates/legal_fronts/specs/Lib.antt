pub mod Fronts
pub mod Pools
pub mod Boxes
