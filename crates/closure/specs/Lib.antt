pub mod Graph
pub mod Enabled
pub mod Chain
pub mod Reach
pub mod Shortest
pub mod Slots
pub mod Parts
