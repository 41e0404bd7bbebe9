pub mod Hex
pub mod Shortest
pub mod Unit
