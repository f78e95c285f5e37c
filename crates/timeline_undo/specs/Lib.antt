pub use Rattle.retro_base.specs.Edits
pub use Rattle.retro_base.specs.History
pub use Rattle.retro_base.specs.Shift
pub mod Session
pub mod KeptSteps
pub mod WalkCounts
pub mod Replaced
pub mod Back
