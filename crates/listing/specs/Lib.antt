pub mod Digits
pub mod Listing
pub mod Parts
pub mod Example
