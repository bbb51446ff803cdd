pub mod Job
pub mod Live
pub mod LiveLaws
