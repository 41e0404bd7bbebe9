pub mod Words
pub mod Capability
pub mod Parts
