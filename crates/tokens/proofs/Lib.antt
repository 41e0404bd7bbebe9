pub mod Stepping
pub mod TokenList
pub mod StepNumbers
