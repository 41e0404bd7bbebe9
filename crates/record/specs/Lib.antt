pub mod Record
pub mod Cells
