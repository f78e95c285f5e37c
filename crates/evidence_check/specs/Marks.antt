-- Rows with a mark for each entry that survives.
use Rattle.std.specs.Prelude.{◌≡◌, ℕ, Bool, true, false, not, List, ◌≤◌, length, map, slice_get, insert, remove, if◌then◌else◌}
use Rattle.std.specs.Prelude.{Option, Some, None}
use Rattle.std.specs.Option.{option_map_or}
use Rattle.std.specs.List.{AllByRecursion}
use Rattle.retro_base.specs.declared.kind.Kind.TheVariants.{Pq}
use Rattle.retro_base.specs.declared.row.Change.{Change}
use Rattle.retro_base.specs.declared.row.Change.TheVariants.{Plain, Gain, Lose}
use Rattle.retro_base.specs.declared.row.Entry.{Entry}
use Rattle.retro_base.specs.declared.row.Row.{Row}
use Rattle.retro_base.specs.Better.{comes_after, best_among}
use Rattle.retro_base.specs.Limits.{most_rows}
use Rattle.retro_base.specs.MarkedChange.{is_one_of, dead_in, alive_in}
use Rattle.retro_base.specs.State.{comes_before}
use Rattle.retro_base.specs.Timeline.{IsReplayable}
use Rattle.retro_base.specs.Bridges.{same_entry, survivors}
use Rattle.retro_base.specs.Weights.{added_as}
use Rattle.evidence.specs.declared.evidence.Evidence.{Evidence}
use Rattle.evidence_check.specs.declared.error.CheckError.{CheckError}
use Rattle.evidence_check.specs.declared.error.CheckError.TheVariants as causes
use Rattle.evidence_check.specs.Truth.{bridge_of, same_bridge, same_change}
use Rattle.evidence_check.specs.declared.weighed_row.WeighedRow.{WeighedRow}

-- the row that is marked
abbrev pub unweighed : WeighedRow → Row
unweighed marked = record { number = marked.number; time = 0; op = marked.op }

abbrev pub rows_of : List WeighedRow → List Row
rows_of marked = map unweighed marked

-- the entry that it adds, where it adds one; the same where the entry survives, and where it is dead
abbrev pub entry_of : WeighedRow → Option Entry
entry_of marked = added_as marked.op marked.number

abbrev pub alive_entry : WeighedRow → Option Entry
alive_entry marked = alive_in marked.alive (entry_of marked)

abbrev pub dead_entry : WeighedRow → Option Entry
dead_entry marked = dead_in marked.alive (entry_of marked)

-- the mark says whether the entry of the row is among these
abbrev pub IsMarked : List Entry → WeighedRow → Type 0
IsMarked alive marked = marked.alive ≡ is_one_of alive (entry_of marked)

-- the rows replay whole, and the marks are those of their survivors
pub record MarksSurvivors (marked : List WeighedRow) : Type 0 where
  pub few : length marked ≤ most_rows
  pub replayable : IsReplayable Pq (rows_of marked)
  pub marks : AllByRecursion (IsMarked (survivors (rows_of marked))) marked

-- the greatest of the dead entries, and the least one of those that survive
abbrev pub greatest_dead : List WeighedRow → Option Entry
greatest_dead marked = best_among comes_before dead_entry None marked

abbrev pub least_alive : List WeighedRow → Option Entry
least_alive marked = best_among comes_after alive_entry None marked

-- the row with this mark, where it adds the entry
abbrev pub adds : Entry → WeighedRow → Bool
adds entry marked = option_map_or (same_entry entry) (entry_of marked) false

abbrev pub with_mark : Entry → Bool → WeighedRow → WeighedRow
with_mark entry alive marked = if adds entry marked then record marked { alive = alive } else marked

abbrev pub is_alive_at : List WeighedRow → ℕ → Bool
is_alive_at marked place = option_map_or (λ row. row.alive) (slice_get marked place) false

-- why a change is refused where this one was read off the marks, or none
abbrev pub cause_against : Change → Option Change → Option CheckError
cause_against stated None = Some causes.Replay
cause_against stated (Some change) =
    if not (same_bridge (bridge_of stated) (bridge_of change)) then Some causes.Bridge
    else (if not (same_change stated change) then Some causes.Entry
    else None)

-- the rows after an edit, and their marks: the entry is gained, or lost
abbrev pub edited_rows : List WeighedRow → Bool → ℕ → WeighedRow → List WeighedRow
edited_rows marked true place row = insert marked place row
edited_rows marked false place row = remove marked place

abbrev pub changed_marks : Change → List WeighedRow → List WeighedRow
changed_marks Plain marked = marked
changed_marks (Gain bridge entry) marked = map (with_mark entry true) marked
changed_marks (Lose bridge entry) marked = map (with_mark entry false) marked

-- the row that evidence tells of, without a mark
abbrev pub weighed_row : Evidence → WeighedRow
weighed_row e = record { number = e.number; op = e.op; alive = false }
