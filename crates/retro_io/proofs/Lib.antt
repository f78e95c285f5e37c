pub mod DueLemmas
pub mod LineLemmas
pub mod OutboxLemmas
pub mod RangeLemmas
pub mod ReadLemmas
pub mod SinkLemmas
