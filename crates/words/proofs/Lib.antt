pub mod WordLaws
pub mod BitsLaws
pub mod AnswerLaws
pub mod Answers
pub mod Capability
