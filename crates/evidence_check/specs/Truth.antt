-- Why the evidence of an edit is refused, by the rows that the evidence before it has reported of the same timeline.
use Rattle.std.specs.Prelude.{ℕ, ◌==◌, Bool, true, false, not, ◌&&◌, nat_le, nat_lt, is_some, List, length, slice_get, if◌then◌else◌}
use Rattle.std.specs.Prelude.{Option, Some, None}
use Rattle.std.specs.Option.{option_map_or}
use Rattle.std.specs.List.{list_any}
use Rattle.std.specs.Ordering.{int_eq}
use Rattle.retro_base.specs.declared.kind.Kind.TheVariants.{Pq}
use Rattle.retro_base.specs.declared.op.Op.{Op}
use Rattle.retro_base.specs.declared.op.Op.TheVariants.{Ins, DelMin}
use Rattle.retro_base.specs.declared.row.Change.{Change}
use Rattle.retro_base.specs.declared.row.Change.TheVariants.{Plain, Gain, Lose}
use Rattle.retro_base.specs.declared.row.Row.{Row}
use Rattle.retro_base.specs.Limits.{most_rows}
use Rattle.retro_base.specs.Replay.{failure}
use Rattle.retro_base.specs.Edits.{Edit, add, cut, edited}
use Rattle.retro_base.specs.Bridges.{same_entry, stated_bridge}
use Rattle.retro_base.specs.Changes.{change_of}
use Rattle.evidence.specs.declared.evidence.Evidence.{Evidence}
use Rattle.evidence_check.specs.declared.error.CheckError.{CheckError}
use Rattle.evidence_check.specs.declared.error.CheckError.TheVariants as causes

-- the edit that evidence tells of; its row has time 0, since evidence tells no times
abbrev pub edit_with : Bool → ℕ → Row → Edit
edit_with true place row = add place row
edit_with false place row = cut place row

abbrev pub reported_row : Evidence → Row
reported_row e = record { number = e.number; time = 0; op = e.op }

abbrev pub reported_edit : Evidence → Edit
reported_edit e = edit_with e.added e.place (reported_row e)

-- there is no room for one more row
abbrev pub is_full : Bool → List Row → Bool
is_full added rows = added && nat_le most_rows (length rows)

-- a row cannot be put in at the place, or none stands there to be taken out
abbrev pub is_outside : Bool → ℕ → List Row → Bool
is_outside true place rows = nat_lt (length rows) place
is_outside false place rows = nat_le (length rows) place

-- one of the rows has the number
abbrev pub has_number : ℕ → List Row → Bool
has_number number rows = list_any (λ row. row.number == number) rows

-- the test fails of the row at a place, or there is none
abbrev pub fails_at : (Row → Bool) → ℕ → List Row → Bool
fails_at test place rows = option_map_or (λ row. not (test row)) (slice_get rows place) true

-- a row that is put in has the number of another one, or the one that is taken out has not this number
abbrev pub has_wrong_number : Bool → ℕ → ℕ → List Row → Bool
has_wrong_number true number place rows = has_number number rows
has_wrong_number false number place rows = fails_at (λ row. row.number == number) place rows

-- two operations of a priority queue are one
abbrev pub same_op : Op → Op → Bool
same_op (Ins key) (Ins other) = int_eq key other
same_op DelMin DelMin = true
same_op op other = false

-- the row that is taken out does something else
abbrev pub has_wrong_op : Bool → Op → ℕ → List Row → Bool
has_wrong_op true op place rows = false
has_wrong_op false op place rows = fails_at (λ row. same_op row.op op) place rows

-- the bridge that a change states
abbrev pub bridge_of : Change → Option ℕ
bridge_of Plain = None
bridge_of (Gain bridge entry) = Some bridge
bridge_of (Lose bridge entry) = bridge

abbrev pub same_bridge : Option ℕ → Option ℕ → Bool
same_bridge None None = true
same_bridge (Some bridge) (Some other) = bridge == other
same_bridge bridge other = false

-- two changes are one
abbrev pub same_change : Change → Change → Bool
same_change Plain Plain = true
same_change (Gain bridge entry) (Gain other changed) = bridge == other && same_entry entry changed
same_change (Lose bridge entry) (Lose other changed) = same_bridge bridge other && same_entry entry changed
same_change change other = false

-- the first cause that lies in what the edit changes
abbrev pub change_cause : List Row → Edit → Change → Option CheckError
change_cause rows edit change =
    if is_some (failure Pq (edited rows edit)) then Some causes.Replay
    else (if not (same_bridge (bridge_of change) (stated_bridge rows edit)) then Some causes.Bridge
    else (if not (same_change change (change_of Pq rows edit)) then Some causes.Entry
    else None))

-- the first cause for which evidence is refused, after these rows
unfoldable pub cause_of : List Row → Evidence → Option CheckError
cause_of rows e =
    if is_full e.added rows then Some causes.Full
    else (if is_outside e.added e.place rows then Some causes.Place
    else (if has_wrong_number e.added e.number e.place rows then Some causes.Number
    else (if has_wrong_op e.added e.op e.place rows then Some causes.Row
    else change_cause rows (reported_edit e) e.change)))

-- the rows after the edit
abbrev pub rows_after : List Row → Evidence → List Row
rows_after rows e = edited rows (reported_edit e)
