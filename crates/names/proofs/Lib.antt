pub mod Texts
pub mod NameLaws
pub mod Answers
pub mod Before
