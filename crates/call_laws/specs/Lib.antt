pub mod Callers
pub mod CallLaws
