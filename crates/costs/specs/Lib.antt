pub mod Digits
pub mod Visits
pub mod VisitsLaws
