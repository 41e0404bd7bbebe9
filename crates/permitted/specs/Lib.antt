pub mod Permitted
pub mod Asked
