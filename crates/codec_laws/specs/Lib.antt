pub mod Sights
pub mod Sources
pub mod Contents
pub mod Laws
pub mod Answers
pub mod Seen
pub mod Left
