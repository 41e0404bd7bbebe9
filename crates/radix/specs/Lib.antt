pub mod Radix
pub mod RadixPairs
pub mod Parts
