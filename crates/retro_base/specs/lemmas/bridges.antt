-- The lemmas of the laws on bridges. Rows are moves here: a row adds an entry, or takes the least one.

-- entries in their order, the tests, and moves that lead from some entries to others
pub mod EntryOrder
pub mod Entries
pub mod Tests
pub mod Moves
pub mod Bridging
pub mod Histories
-- weights, and the dead before the survivors
pub mod Weighing
pub mod DeadFirst
-- two lists of rows that end alike, one with an entry more: what an edit carries along
pub mod Carried
pub mod Junctions
pub mod After
pub mod Surviving
pub mod Later
pub mod EditJunctions
pub mod EditsCarry
-- the table of changes: what is gained, and what is lost
pub mod Added
pub mod Chain
pub mod Gained
pub mod Lost
pub mod Losing
pub mod LossTable
-- the stated bridge and the change
pub mod StatedBridges
pub mod OneChange
pub mod Best
pub mod MarkedChange
