-- Edits of a timeline: a row is put in at a place, or the row at a place is taken out. A step is some
-- edits that are made one after another.
use Rattle.std.specs.Prelude.{◌≡◌, ℕ, ◌≤◌, List, length, slice_get, map, reverse}
use Rattle.std.specs.Prelude.{Option, Some, None}
use Rattle.std.specs.Option.{option_and_then}
use Rattle.std.specs.List.{insert, remove, fold}
use Rattle.retro_base.specs.declared.kind.Kind.{Kind}
use Rattle.retro_base.specs.declared.row.Row.{Row}
use Rattle.retro_base.specs.Replay.{failure}

-- an edit of a list of rows: its place, and the row that it puts in there or takes out
pub data Edit : Type 0 where
  add : ℕ → Row → Edit
  cut : ℕ → Row → Edit

-- the edit can be made in these rows: its place is among them, and the row that is taken out stands there
abbrev pub IsWithin : List Row → Edit → Type 0
IsWithin rows (add place row) = place ≤ length rows
IsWithin rows (cut place row) = slice_get rows place ≡ Some row

-- the rows after an edit
abbrev pub edited : List Row → Edit → List Row
edited rows (add place row) = insert rows place row
edited rows (cut place row) = remove rows place

-- the edit that takes an edit back
abbrev pub inverse : Edit → Edit
inverse (add place row) = cut place row
inverse (cut place row) = add place row

-- a step: its edits in the order in which they are made
abbrev pub Step : Type 0
Step = List Edit

-- the rows after a step
abbrev pub edited_by : List Row → Step → List Row
edited_by rows edits = fold edited rows edits

-- the step that takes a step back: the inverses, the last edit first
abbrev pub inverse_step : Step → Step
inverse_step edits = reverse (map inverse edits)

-- an edit, or a step, is accepted exactly where the rows after it have no failure
abbrev pub IsAccepted : Kind → List Row → Edit → Type 0
IsAccepted kind rows edit = failure kind (edited rows edit) ≡ None

abbrev pub IsStepAccepted : Kind → List Row → Step → Type 0
IsStepAccepted kind rows edits = failure kind (edited_by rows edits) ≡ None

-- the first row that cannot be performed, where there is one
abbrev pub failing_row : Kind → List Row → Option Row
failing_row kind rows = option_and_then (slice_get rows) (failure kind rows)
