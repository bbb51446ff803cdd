pub mod ByteSumLaws
