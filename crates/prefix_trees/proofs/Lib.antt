pub mod MeasuredRows
pub mod FoundPlaces
pub mod MeasuredSigns
pub mod FoundSigns
pub mod RowFailures
pub mod LineAnswers
