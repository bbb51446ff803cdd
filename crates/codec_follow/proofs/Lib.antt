pub mod Erased
pub mod Answered
pub mod Moves
pub mod OutputLaws
pub mod ErrorLaws
