pub mod StringLaws
mod StopLaws
mod OnlyLaws
pub mod Stands
