pub mod Encodings
pub mod Accepted
pub mod Answers
