-- What a priority queue by bridges keeps: a list of rows with their marks, and the entries that they add, in order, with theirs.
use Rattle.std.specs.Prelude.{◌≡◌, ◌≢◌, ◌↔◌, ℕ, Bool, List, length, Contains, slice_get, Option, Some, None}
use Rattle.retro_base.specs.declared.kind.Kind.TheVariants.{Pq}
use Rattle.retro_base.specs.declared.row.Entry.{Entry}
use Rattle.retro_base.specs.declared.row.Row.{Row}
use Rattle.retro_base.specs.Bridges.{survivors, is_among}
use Rattle.retro_base.specs.BridgeTable.{added}
use Rattle.retro_base.specs.Timeline.{IsReplayable}
use Rattle.retro_base.specs.Weights.{added_by}
use Rattle.bridge_pq.specs.declared.marked_row.MarkedRow.{MarkedRow}
use Rattle.bridge_pq.specs.declared.marked_entry.MarkedEntry.{MarkedEntry}
use Rattle.bridge_pq.specs.MarkedRows.{rows_of, AreMarked}
use Rattle.bridge_pq.specs.MarkedEntries.{entries_in, Rise, TellPresent}

-- the row at this place adds the entry
abbrev pub AddsAt : List Row → ℕ → Entry → Type 0
AddsAt rows place entry = (row : Row) × (slice_get rows place ≡ Some row) × (added_by row ≡ Some entry)

-- the row at the place that was found adds this entry, and no place was found where there is none
abbrev pub FindsRow : List Row → Option Entry → Option ℕ → Type 0
FindsRow rows entry None = entry ≡ None
FindsRow rows entry (Some place) = (found : Entry) × (entry ≡ Some found) × AddsAt rows place found

-- among the entries of the present this one is flipped, and no other
pub record IsFlipped (before after : List Entry) (entry : Entry) (survives : Bool) : Type 0 where
  pub flip : is_among after entry ≡ survives
  pub others : (other : Entry) → other ≢ entry → is_among after other ≡ is_among before other

-- the entries that the rows add, each once and in order
pub record AreAdded (rows : List Row) (entries : List Entry) : Type 0 where
  pub rise : Rise entries
  pub as_many : length entries ≡ length (added rows)
  pub same : (entry : Entry) → Contains entries entry ↔ Contains (added rows) entry

-- the entries are those that the rows add, each once and in order, with marks for those of the present
pub record Holds (rows : List Row) (alive : List Entry) (entries : List MarkedEntry) : Type 0 where
  pub rise : Rise (entries_in entries)
  pub as_many : length entries ≡ length (added rows)
  pub same : (entry : Entry) → Contains (entries_in entries) entry ↔ Contains (added rows) entry
  pub tell : TellPresent alive entries

-- rows that replay whole, and marks that are those of the definitions
pub record IsBridged (items : List MarkedRow) (entries : List MarkedEntry) : Type 0 where
  pub replayable : IsReplayable Pq (rows_of items)
  pub marked : AreMarked (survivors (rows_of items)) items
  pub holds : Holds (rows_of items) (survivors (rows_of items)) entries
