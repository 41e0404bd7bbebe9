pub mod Placed
pub mod LookBack
pub mod MarkLaws
pub mod ReadLaws
pub mod Answers
