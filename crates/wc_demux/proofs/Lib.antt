pub mod PartLaws
pub mod WavLaws
pub mod PieceLaws
pub mod BlockLaws
pub mod FrameLaws
pub mod FlacLaws
pub mod MediaLaws
mod WithinLaws
