pub mod Control
pub mod Replay
pub mod Shown
pub mod Facts
pub mod ShownLaws
pub mod StepLaws
pub mod Earlier
pub mod Held
