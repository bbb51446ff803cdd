pub mod Course
pub mod FlowLaws
pub mod OutLaws
pub mod PlaceLaws
pub mod OldLaws
pub mod IndexLaws
pub mod FallLaws
pub mod FoundLaws
pub mod HearLaws
pub mod SameLaws
pub mod PromiseLaws
pub mod EndLaws
pub mod ContentLaws
pub mod AlikeLaws
pub mod FlushLaws
pub mod RejectLaws
pub mod OnlyLaws
pub mod LineLaws
pub mod ResolveLaws
pub mod SeenLaws
pub mod BookLaws
pub mod EqualLaws
mod StuckLaws
mod FollowLaws
