pub use Rattle.reactions.specs.Bench
pub mod Kept
pub mod EditErrors
pub mod AnsweredLine
pub mod OpenBlocks
