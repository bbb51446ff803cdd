pub mod Bag
pub mod Pools
pub mod Laws
pub mod Shared
