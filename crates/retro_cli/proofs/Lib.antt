pub mod Statuses
pub mod Behind
