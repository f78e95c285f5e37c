pub mod Checkpoints
pub mod Rule
pub mod Widths
