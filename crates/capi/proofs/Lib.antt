pub mod NumberLaws
pub mod PlaceLaws
pub mod PropertyLaws
pub mod UnitLaws
pub mod Answers
