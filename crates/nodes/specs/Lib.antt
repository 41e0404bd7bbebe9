pub mod Nodes
pub mod Values
pub mod Places
pub mod Parts
