pub mod Block
pub mod Read
pub mod Saved
pub mod ReadsBack
