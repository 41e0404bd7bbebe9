pub mod Names
pub mod Room
