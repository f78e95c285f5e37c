pub mod NextLine
pub mod ShortLines
mod Examples
