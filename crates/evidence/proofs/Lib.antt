pub mod NumberTexts
pub mod Cutting
pub mod LineWords
pub mod ReadsBack
pub mod PrintedPart
pub mod Lines
pub mod Short
mod Examples
