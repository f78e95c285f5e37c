pub mod Spreading
pub mod Rare
pub mod Equal
pub mod Rule
pub mod ReadBeside
