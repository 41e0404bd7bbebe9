pub mod Lookup
pub mod Parts
pub mod Reasons
pub mod LooksUp
