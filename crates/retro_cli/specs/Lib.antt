pub use Rattle.retro_run.specs.Output
pub use Rattle.retro_run.specs.Status
pub mod Forms
pub mod Promise
pub mod Program
pub mod FollowedProgram
