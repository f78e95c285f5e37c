pub mod Fates
pub mod Standings
pub mod Holding
pub mod AtMost
