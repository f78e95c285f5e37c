-- Which entry an edit of a priority queue gains or loses, by the bridge that it states.
use Rattle.std.specs.Prelude.{ℕ, List, take, drop, Contains}
use Rattle.std.specs.List.{filter_map}
use Rattle.retro_base.specs.declared.row.Entry.{Entry}
use Rattle.retro_base.specs.declared.row.Row.{Row}
use Rattle.retro_base.specs.State.{comes_before}
use Rattle.retro_base.specs.Better.{comes_after, IsBest}
use Rattle.retro_base.specs.Bridges.{survivors}
use Rattle.retro_base.specs.Weights.{added_by}

-- the entries that these rows add
abbrev pub added : List Row → List Entry
added rows = filter_map added_by rows

-- a dead entry that was added at this place or after it
abbrev pub IsDeadFrom : List Row → ℕ → Entry → Type 0
IsDeadFrom rows place entry = Contains (added (drop place rows)) entry × ¬ Contains (survivors rows) entry

-- a survivor that was added before this place
abbrev pub IsSurvivorBefore : List Row → ℕ → Entry → Type 0
IsSurvivorBefore rows place entry = Contains (added (take place rows)) entry × Contains (survivors rows) entry

-- the greatest entry of which this holds, and the least one
abbrev pub IsGreatest : (Entry → Type 0) → Entry → Type 0
IsGreatest P entry = IsBest comes_before P entry

abbrev pub IsLeast : (Entry → Type 0) → Entry → Type 0
IsLeast P entry = IsBest comes_after P entry
