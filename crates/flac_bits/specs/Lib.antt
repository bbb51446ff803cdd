pub mod ByteSums
pub mod Reader
pub mod Window
pub mod WindowLaws
