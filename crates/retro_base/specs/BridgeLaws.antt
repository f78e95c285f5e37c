-- Laws on bridges; each is the contract of a function of `src/laws.rt`, which has no body. A row that adds a dead entry
-- puts one on a heap, a row that takes takes one off, and a survivor counts for nothing: so the weights up to a place count the
-- dead that are held there, and it is a bridge where they are none. Elsewhere the dead lie before the survivors, since the least
-- entry is taken first and a survivor never is.
--
--     rows        ins 4    ins 2    delmin   delmin   ins 3
--     weights       1        1        -1       -1       0
--     sums       0       1        2        1        0       0
--     held       .       4       2 4       4        .       3
--     bridges    |                                  |       |
use Rattle.std.specs.Prelude.{◌≡◌, ◌↔◌, ℕ, pos, ◌≤ℤ◌, true, List, Contains}
use Rattle.retro_base.specs.declared.row.Entry.{Entry}
use Rattle.retro_base.specs.declared.row.Row.{Row}
use Rattle.retro_base.specs.State.{comes_before}
use Rattle.retro_base.specs.Bridges.{entries_at, survivors, IsBridge}
use Rattle.retro_base.specs.Weights.{sum_of_weights, dead_at}
use Rattle.retro_base.specs.Carried.{IsPqHistory}

-- the weights up to a place add up to the number of entries that are held there and do not survive
abbrev pub WeightsCountTheDead : Type 0
WeightsCountTheDead = (rows : List Row) (place : ℕ) → IsPqHistory rows → sum_of_weights rows place ≡ pos (dead_at rows place)

-- so this sum is never below 0
abbrev pub SumsAreNeverNegative : Type 0
SumsAreNeverNegative = (rows : List Row) (place : ℕ) → IsPqHistory rows → pos 0 ≤ℤ sum_of_weights rows place

-- and a place is a bridge exactly where it is 0
abbrev pub BridgesAreZeros : Type 0
BridgesAreZeros = (rows : List Row) (place : ℕ) → IsPqHistory rows → IsBridge rows place ↔ (sum_of_weights rows place ≡ pos 0)

-- of the entries that are held together, each dead one comes before each survivor
abbrev pub DeadComeFirst : Type 0
DeadComeFirst = (rows : List Row) (place : ℕ) (dead alive : Entry) → IsPqHistory rows
    → Contains (entries_at rows place) dead → Contains (entries_at rows place) alive
    → ¬ Contains (survivors rows) dead → Contains (survivors rows) alive → comes_before dead alive ≡ true
