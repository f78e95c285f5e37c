pub use Rattle.retro_base.specs.Limits
pub use Rattle.retro_base.specs.OrderLaws
pub mod Lawful
pub mod LifetimeLaws
pub mod Lifetimes
pub mod Ordered
pub mod OrderedLaws
pub mod Tries
