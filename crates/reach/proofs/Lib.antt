pub mod ThroughLaws
pub mod JoinLaws
pub mod AnswerLaws
pub mod Answers
