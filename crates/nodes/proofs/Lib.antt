pub mod ValueLaws
pub mod BehindLaws
pub mod MoveLaws
pub mod RowLaws
pub mod GatherLaws
pub mod SearchLaws
pub mod Located
pub mod PlaceLaws
