pub mod Attributes
pub mod Described
pub mod Parts
pub mod Reserved
