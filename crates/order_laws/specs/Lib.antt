pub mod Sound
pub mod SoundSteps
pub mod Course
pub mod HolderLaws
pub mod Same
pub mod Ends
