pub use Rattle.retro_base.specs.Replay
pub mod KeyRows
pub mod Relabelled
pub mod Ordered
pub mod RowsBeside
