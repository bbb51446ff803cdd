pub mod HeaderLaws
pub mod SpellingLaws
pub mod Writer
pub mod WriterLaws
