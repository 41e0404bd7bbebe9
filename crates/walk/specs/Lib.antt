pub mod Walk
pub mod Containers
pub mod Checked
pub mod Parts
pub mod Final
pub mod Grammar
pub mod Faults
pub mod TotalSize
