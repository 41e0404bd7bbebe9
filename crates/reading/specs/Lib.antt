pub mod Features
pub mod Dependencies
pub mod Reading
pub mod Accepted
pub mod Resolved
pub mod Ends
pub mod Example
