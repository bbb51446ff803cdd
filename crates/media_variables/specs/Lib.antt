pub mod CameLaws
pub mod Given
pub mod Held
pub mod Variables
