pub mod Fits
pub mod FitsLaws
pub mod Follow
pub mod Missing
pub mod Recorded
