pub mod CodecRows
pub mod FollowRows
pub mod ReportRows
pub mod EncodingRows
pub mod AccountsRows
pub mod ReaderRows
