pub mod Placed
pub mod Mirrored
