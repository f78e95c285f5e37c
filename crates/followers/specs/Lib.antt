pub mod Followers
pub mod Totals
pub mod Mirrors
pub mod TakenLaws
pub mod MirrorLaws
