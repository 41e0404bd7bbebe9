pub mod StringList
pub mod Parts
