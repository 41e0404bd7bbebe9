pub mod Scan
pub mod Editions
pub mod Described
pub mod Answers
pub mod Reserved
pub mod Accepted
pub mod Before
