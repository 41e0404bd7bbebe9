pub mod Reading
pub mod Digits
pub mod RoundTrip
pub mod Demand2
pub mod Answers
pub mod Stays
pub mod Before
