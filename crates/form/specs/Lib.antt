pub mod Formed
pub mod WellFormed
pub mod Slots
