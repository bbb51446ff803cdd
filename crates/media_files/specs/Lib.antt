pub mod Media
pub mod Laws
pub mod Within
