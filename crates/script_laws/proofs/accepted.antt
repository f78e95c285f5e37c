-- The lemmas after the law that what is written is accepted: an induction over lines.

-- what leads from one state to another; texts that are lines; a judge that reads them
pub mod Leads
pub mod Printable
pub mod ReadLines
-- edits that are made, and what a judge is reported of them
pub mod Made
pub mod Telling
-- one timeline: what commands and row lines are sure to have, and what becomes of it at a line
pub mod Spelled
pub mod Passing
pub mod Positions
pub mod Effects
pub mod Blocks
-- the bench, line by line
pub mod Timelines
pub mod Benches
pub mod Script
