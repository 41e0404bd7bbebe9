pub mod PermittedLaws
pub mod AskedLaws
pub mod GrantLaws
pub mod Answers
