pub mod Chain
pub mod Slots
pub mod Layers
pub mod Parts
