pub mod Segments
pub mod Encoded
