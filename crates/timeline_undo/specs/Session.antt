-- A timeline that is edited, with what can be undone of it.
use Rattle.std.specs.Prelude.{◌≡◌, ℕ, ◌+◌, ◌<◌, ◌≤◌, Bool, true, List, [], ◌∷◌, ◌⊎◌, length, slice_get, Option, Some, None, IfSome, if◌then◌else◌}
use Rattle.retro_base.specs.declared.kind.Kind.{Kind}
use Rattle.retro_base.specs.declared.op.Op.{Op}
use Rattle.retro_base.specs.declared.row.Row.{Row}
use Rattle.retro_base.specs.Limits.{most_rows, next_limit}
use Rattle.retro_base.specs.Order.{Fits}
use Rattle.retro_base.specs.Replay.{failure}
use Rattle.retro_base.specs.Edits.{Edit, Step, add, cut, edited, edited_by, inverse_step, IsStepAccepted}
use Rattle.retro_base.specs.MadeEdits.{IsMade}
use Rattle.timeline_undo.specs.declared.error.EditError.{EditError}
use Rattle.timeline_undo.specs.declared.error.EditError.TheVariants as edits
use Rattle.timeline_undo.specs.declared.error.UndoError.{UndoError}
use Rattle.timeline_undo.specs.declared.error.UndoError.TheVariants as undos
use Rattle.timeline_undo.specs.declared.turn.Turn.{Turn}
use Rattle.timeline_undo.specs.declared.turn.Turns.{Turns}
use Rattle.timeline_undo.specs.declared.turn.Turns.TheVariants.{Single, Double}
use Rattle.retro_base.specs.declared.target.Target.{Target}
use Rattle.retro_base.specs.History.{History, no_history, recorded, undone, redone}
use Rattle.retro_base.specs.Shift.{shift_at}

-- what a session is seen as: a kind, rows, the number that the next row draws, a history, and whether it is spent
pub record SessionState : Type 0 where
  pub kind : Kind
  pub rows : List Row
  pub next : ℕ
  pub history : History
  pub spent : Bool

-- the row that an insert puts in: it draws the next number
abbrev pub drawn : SessionState → ℕ → Op → Row
drawn session time op = record { number = session.next; time = time; op = op }

-- a row of this time can be put in at this place
abbrev pub CanStand : List Row → ℕ → ℕ → Type 0
CanStand rows place time = (place ≤ length rows) × Fits rows place time

-- there is room for one more row, and a number that it can draw
abbrev pub HasRoom : List Row → ℕ → Type 0
HasRoom rows next = (length rows < most_rows) × (next < next_limit)

-- after an accepted edit, which is a step of its own
abbrev pub with_edit : SessionState → Edit → SessionState
with_edit session edit = record session { rows = edited session.rows edit; history = recorded (edit ∷ []) session.history }

-- after an accepted insert: the next row draws another number
abbrev pub with_insert : SessionState → ℕ → Row → SessionState
with_insert session place row = record (with_edit session (add place row)) { next = session.next + 1 }

-- after an accepted shift, whose row has drawn a number too
abbrev pub with_shift : SessionState → Step → SessionState
with_shift session step =
    record session { rows = edited_by session.rows step; next = session.next + 1; history = recorded step session.history }

-- a step is undone
abbrev pub with_undo : SessionState → Step → SessionState
with_undo session step = record session { rows = edited_by session.rows (inverse_step step); history = undone step session.history }

-- a step is redone
abbrev pub with_redo : SessionState → Step → SessionState
with_redo session step = record session { rows = edited_by session.rows step; history = redone step session.history }

-- the first row that cannot be performed has this number and this time
abbrev pub FailsFirst : Kind → List Row → ℕ → ℕ → Type 0
FailsFirst kind rows number time =
    (index : ℕ) × (row : Row) × (failure kind rows ≡ Some index) × (slice_get rows index ≡ Some row) × (row.number ≡ number) × (row.time ≡ time)

-- why a step does not stand: the first row that could not be performed after all its edits, or out of memory, where all could
abbrev pub IsStepCause : Kind → List Row → Step → EditError → Type 0
IsStepCause kind rows step (edits.Fails number time) = FailsFirst kind (edited_by rows step) number time
IsStepCause kind rows step edits.NoMemory = IsStepAccepted kind rows step

-- and why an edit does not stand
abbrev pub IsCause : Kind → List Row → Edit → EditError → Type 0
IsCause kind rows edit error = IsStepCause kind rows (edit ∷ []) error

-- a session that is spent: these rows, this number to come next, and no history
abbrev pub spent_with : SessionState → List Row → ℕ → SessionState
spent_with session rows next = record session { rows = rows; next = next; history = no_history; spent = true }

-- out of memory after the first list edit of a step and before its end: the session is spent, with the rows after that edit
abbrev pub IsSpentWithin : SessionState → Step → ℕ → SessionState → Type 0
IsSpentWithin before [] next after = ⊥
IsSpentWithin before (edit ∷ []) next after = ⊥
IsSpentWithin before (first ∷ second ∷ more) next after = after ≡ spent_with before (edited before.rows first) next

-- after out of memory all is as before, or the session is spent, and this number comes next
abbrev pub IsLeftWithout : SessionState → Step → ℕ → SessionState → Type 0
IsLeftWithout before step next after = (after ≡ before) ⊎ IsSpentWithin before step next after

-- what a shift leaves that does not stand: where it is spent, its row has drawn a number
abbrev pub IsLeftByShift : SessionState → Step → SessionState → EditError → Type 0
IsLeftByShift before step after (edits.Fails number time) = after ≡ before
IsLeftByShift before step after edits.NoMemory = IsLeftWithout before step (before.next + 1) after

-- why the row at a place is not replaced, and what that leaves
abbrev pub IsUnmade : SessionState → Step → SessionState → EditError → Type 0
IsUnmade before step after error = IsStepCause before.kind before.rows step error × IsLeftByShift before step after error

abbrev pub IsShiftUnmade : SessionState → ℕ → Target → SessionState → EditError → Type 0
IsShiftUnmade before place target after error = IfSome (shift_at before.rows target before.next place) (λ step. IsUnmade before step after error)

-- what an undo or a redo leaves that is not made, where this step is the newest, if there is one
abbrev pub IsLeftByUndo : SessionState → Option Step → SessionState → UndoError → Type 0
IsLeftByUndo before step after undos.Nothing = (step ≡ None) × (after ≡ before)
IsLeftByUndo before step after undos.NoMemory = (newest : Step) × (step ≡ Some newest) × IsLeftWithout before newest before.next after

-- the list edit that a turn tells
abbrev pub edit_reported : Turn → Edit
edit_reported turn = if turn.added then add turn.place turn.row else cut turn.place turn.row

-- the step that turns tell: their list edits in order
abbrev pub step_reported : Turns → Step
step_reported (Single turn) = edit_reported turn ∷ []
step_reported (Double first second) = edit_reported first ∷ edit_reported second ∷ []

-- each was made in the rows that those before it had left, with the change that it tells
abbrev pub AreMade : Kind → List Row → Turns → Type 0
AreMade kind rows (Single turn) = IsMade kind rows (edit_reported turn) turn.change
AreMade kind rows (Double first second) =
    IsMade kind rows (edit_reported first) first.change
    × IsMade kind (edited rows (edit_reported first)) (edit_reported second) second.change
