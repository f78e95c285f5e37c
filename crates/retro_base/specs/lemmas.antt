-- Lemmas that the layers above cite beside the laws. No definition that a contract names stands here.

-- a fold over rows, and counting along it
pub mod Folds
pub mod CountedSizes
pub mod CountedLines
pub mod SortedPairs
pub mod CountedEntries
pub mod CountedKeys
pub mod Counted
-- rows that add, put in anywhere, and rows that take, taken out
pub mod GivingEdits
-- rows with other values
pub mod ValuedRows
-- rows that replay
pub mod Replayable
pub mod FirstRows
-- entries of a priority queue, and its bridges
pub mod bridges
pub mod EntrySteps
