pub mod RowLaws
pub mod TableLaws
pub mod SlotLaws
pub mod DependencyLaws
pub mod InsideLaws
