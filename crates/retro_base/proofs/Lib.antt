pub mod Padding
mod Examples
pub mod LineSteps
pub mod PairSteps
pub mod PossibleSteps
pub mod Performed
pub mod bridges
pub mod KeptChange
