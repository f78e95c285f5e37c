pub mod Draws
pub mod Script
pub mod Coming
