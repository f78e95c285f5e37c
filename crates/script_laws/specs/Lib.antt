pub use Rattle.retro_run.specs.Output
pub mod Accepted
pub mod FusedLines
pub mod Mirrored
pub mod OwnLines
pub mod SavedText
