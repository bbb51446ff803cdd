pub mod Ending
pub mod Judging
pub mod Lending
pub mod Walking
