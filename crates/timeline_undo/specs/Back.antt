-- What an undo that follows an accepted step leads to, and a redo after it.
use Rattle.std.specs.Prelude.{◌≡◌, ℕ, List, Some, [], ◌∷◌, slice_get}
use Rattle.retro_base.specs.declared.row.Row.{Row}
use Rattle.retro_base.specs.Edits.{Step, edited, edited_by, IsWithin}
use Rattle.retro_base.specs.declared.target.Target.{Target}
use Rattle.retro_base.specs.History.{newest_step, recorded}
use Rattle.timeline_undo.specs.Session.{SessionState, with_undo, with_redo}
use Rattle.retro_base.specs.Shift.{shift_of}

-- the session after an accepted step, where this number comes next: the same as before for a cut, and one more for an insert or a shift
abbrev pub after_step : SessionState → Step → ℕ → SessionState
after_step session step next =
    record session { rows = edited_by session.rows step; next = next; history = recorded step session.history }

-- after its undo, and after a redo of that
abbrev pub after_undo : SessionState → Step → ℕ → SessionState
after_undo session step next = with_undo (after_step session step next) step

abbrev pub after_redo : SessionState → Step → ℕ → SessionState
after_redo session step next = with_redo (after_undo session step next) step

-- the step is the newest one to undo, which leads to the rows from before it; then it is the newest one to redo, which leads to the
-- edited rows; and the number that comes next stays the one after the step
pub record LeadsBack (session : SessionState) (step : Step) (next : ℕ) : Type 0 where
  pub newest : newest_step (after_step session step next).history.undo ≡ Some step
  pub undone : (after_undo session step next).rows ≡ session.rows
  pub newest_undone : newest_step (after_undo session step next).history.redo ≡ Some step
  pub redone : (after_redo session step next).rows ≡ edited_by session.rows step
  pub next_undone : (after_undo session step next).next ≡ next
  pub next_redone : (after_redo session step next).next ≡ next

-- the edits of a step can be made one after another
abbrev pub CanBeMade : List Row → Step → Type 0
CanBeMade rows [] = Unit {0}
CanBeMade rows (edit ∷ more) = IsWithin rows edit × CanBeMade (edited rows edit) more

-- the edits of a shift can
abbrev pub ShiftsCanBeMade : Type 0
ShiftsCanBeMade = (rows : List Row) (target : Target) (number index : ℕ) (old : Row) → slice_get rows index ≡ Some old
    → CanBeMade rows (shift_of rows target number index old)
