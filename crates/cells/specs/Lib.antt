pub mod Cells
pub mod Buffer
pub mod Rows
pub mod Bytes
