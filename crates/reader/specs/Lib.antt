pub mod Contents
pub mod Outcome
pub mod Parts
