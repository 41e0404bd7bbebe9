pub mod Feature
pub mod Phandles
