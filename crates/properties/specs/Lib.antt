pub mod Properties
pub mod Marks
