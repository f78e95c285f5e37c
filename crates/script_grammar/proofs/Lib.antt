pub mod Cutting
pub mod Digits
pub mod Proper
mod Examples
