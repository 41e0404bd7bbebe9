pub mod EndLaws
pub mod TableNumbers
pub mod LookupEnds
pub mod BlockEnds
pub mod Demand1
mod StringLists
pub mod Demand2
pub mod Demand3
pub mod Cycles
pub mod Marked
pub mod Refuted
pub mod GraphLaws
pub mod ButCellsLaws
pub mod Ignored
