pub mod SegmentLaws
pub mod Answers
pub mod SegmentBytes
pub mod Bounds
pub mod SegmentLists
pub mod Accepted
