pub mod Answers
pub mod Blocks
pub mod Reading
pub mod Entries
pub mod Finding
pub mod ReturnedPart
pub mod Reasons
pub mod LooksUp
