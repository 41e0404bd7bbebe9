pub mod Items
pub mod StringsBlock
pub mod TreeItems
pub mod Nops
pub mod Padding
