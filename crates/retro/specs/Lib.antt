pub mod Followers
pub mod Gathered
pub mod Words
