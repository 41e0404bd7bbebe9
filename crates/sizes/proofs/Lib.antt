pub mod Rules
pub mod Ascending
pub mod Accepted
pub mod Before
pub mod Answers
