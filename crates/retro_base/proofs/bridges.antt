-- Passes over rows that find a bridge, an entry and the change of an edit.

pub mod Search
