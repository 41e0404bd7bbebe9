pub mod Answers
pub mod Properties
