pub mod Moments
pub mod MomentLaws
