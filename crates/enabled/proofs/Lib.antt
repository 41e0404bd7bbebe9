pub mod DependencyLaws
pub mod CountLaws
pub mod AnswerLaws
pub mod Answers
