-- Out of memory comes only at lines that are not refused.
use Rattle.std.proofs.Common.{◌≡◌, ℕ, ◌+◌, ◌<◌, false, List, [], ◌∷◌, length, slice_get, refl, sym, subst, arith, Option, Some, None, Result, Ok, Err, OnErr}
use Rattle.std.specs.Prelude.{option_map, IfSome}
use Rattle.std.proofs.lemmas.Bool.{lt-leb}
use Rattle.costs.specs.declared.memory.NoMemory.{NoMemory}
use Rattle.retro_base.specs.declared.row.Row.{Row}
use Rattle.retro_base.specs.Edits.{Edit, Step, cut, edited_by, inverse_step}
use Rattle.retro_base.specs.Limits.{most_rows, next_limit}
use Rattle.retro_base.specs.Places.{place_of_row}
use Rattle.retro_base.specs.Replay.{failure}
use Rattle.retro_base.specs.History.{newest_step}
use Rattle.timeline_undo.specs.Session.{SessionState, IsCause, IsLeftByUndo, IsShiftUnmade, IsUnmade}
use Rattle.retro_base.specs.Shift.{shift_at}
use Rattle.timeline_undo.specs.declared.error.EditError.{EditError}
use Rattle.timeline_undo.specs.declared.error.EditError.TheVariants as errors
use Rattle.timeline_undo.specs.declared.error.UndoError.{UndoError}
use Rattle.timeline_undo.specs.declared.error.UndoError.TheVariants as undos
use Rattle.retro_base.specs.declared.target.Target.{Target}
use Rattle.reactions.specs.declared.outcome.Outcome.{Outcome}
use Rattle.reactions.specs.declared.outcome.Outcome.TheVariants.{Accepted, Inserted}
use Rattle.reactions.specs.Bench.{NamedTimeline}
use Rattle.timelines.specs.Kept.{named}
use Rattle.timelines.specs.EditErrors.{IsRefusedBy}
use Rattle.reactions.specs.Outcome.{is_refusal}
use Rattle.reactions.specs.TimelineEffects.{TimelineEffect, deletes, edits, makes, redoes, shifts, shifts_there, undoes}
use Rattle.reactions.specs.ReactionLaws.{reported_is_no_refusal}
use Rattle.timelines.proofs.TimelineEffects.{at_step, deletes_there, makes_accepted, redoes_newest, shifts_makes, shifts_step, slice_get_none, step_there, undoes_newest}
use Rattle.retro_base.specs.Facts.{one_value}

-- the line is not refused
abbrev pub IsNotRefused : TimelineEffect → Type 0
IsNotRefused effect = is_refusal effect.outcome ≡ false

makes_is_not_refused : (t : NamedTimeline) (step : Step) (next : ℕ) (outcome : Outcome) → is_refusal outcome ≡ false → failure t.kind (edited_by t.rows step) ≡ None → IsNotRefused (makes t step next outcome)
makes_is_not_refused t step next outcome plain valid =
    subst IsNotRefused (sym (makes_accepted t step next outcome valid)) (reported_is_no_refusal t.name t.kind t.rows step outcome plain)

-- an edit alone, which replays
pub edit_memory : (t : NamedTimeline) (effect : TimelineEffect) (edit : Edit) (next : ℕ) (plain : Outcome) (error : EditError) (result : Result Outcome NoMemory)
    → effect ≡ edits t edit next plain → is_refusal plain ≡ false → IsCause t.kind t.rows edit error → IsRefusedBy error result → OnErr result (IsNotRefused effect)
edit_memory t effect edit next plain (errors.Fails failing time) result is accepted cause refused = rw refused tt
edit_memory t effect edit next plain errors.NoMemory (Ok outcome) is accepted cause refused = tt
edit_memory t effect edit next plain errors.NoMemory (Err error) is accepted cause refused =
    subst IsNotRefused (sym is) (makes_is_not_refused t (edit ∷ []) next plain accepted cause)

-- a row that is taken out
delete_found : (t : NamedTimeline) (number place : ℕ) (found : Option Row) (error : EditError) (result : Result Outcome NoMemory) → place_of_row number t.rows ≡ Some place
    → place < length t.rows → slice_get t.rows place ≡ found → IfSome found (λ row. IsCause t.kind t.rows (cut place row) error) → IsRefusedBy error result
    → OnErr result (IsNotRefused (deletes t number))
delete_found t number place None error result there within at cause refused = absurd (omega (arith, slice_get_none t.rows place at, within))
delete_found t number place (Some row) error result there within at cause refused =
    edit_memory t (deletes t number) (cut place row) t.next Accepted error result (deletes_there t number place row there at) refl cause refused

pub delete_memory : (t : NamedTimeline) (number place : ℕ) (error : EditError) (result : Result Outcome NoMemory) → place_of_row number t.rows ≡ Some place
    → place < length t.rows → IfSome (slice_get t.rows place) (λ row. IsCause t.kind t.rows (cut place row) error) → IsRefusedBy error result
    → OnErr result (IsNotRefused (deletes t number))
delete_memory t number place error result there within cause refused =
    delete_found t number place (slice_get t.rows place) error result there within refl cause refused

-- a row that is replaced
abbrev pub ShiftIsNotRefused : NamedTimeline → Target → ℕ → Type 0
ShiftIsNotRefused t target place = (step : Step) → shift_at t.rows target t.next place ≡ Some step → IsNotRefused (shifts_there t step)

shift_is_not_refused : (t : NamedTimeline) (step : Step) → length t.rows < most_rows → t.next < next_limit → failure t.kind (edited_by t.rows step) ≡ None → IsNotRefused (shifts_there t step)
shift_is_not_refused t step room number valid =
    subst IsNotRefused (sym (shifts_makes t step (lt-leb most_rows (length t.rows) room) (lt-leb next_limit t.next number)))
    (makes_is_not_refused t step (t.next + 1) (Inserted t.next) refl valid)

pub shift_memory : (name : List ℕ) (s after : SessionState) (target : Target) (place : ℕ) (error : EditError) (result : Result Outcome NoMemory)
    → length s.rows < most_rows → s.next < next_limit → IsShiftUnmade s place target after error → IsRefusedBy error result
    → OnErr result (ShiftIsNotRefused (named name s) target place)
shift_memory name s after target place (errors.Fails failing time) result room number unmade refused = rw refused tt
shift_memory name s after target place errors.NoMemory (Ok outcome) room number unmade refused = tt
shift_memory name s after target place errors.NoMemory (Err error) room number unmade refused =
    λ step at.
    let why : IsUnmade s step after errors.NoMemory = at_step (λ q. IsUnmade s q after errors.NoMemory) step (shift_at s.rows target s.next place) at unmade in
    shift_is_not_refused (named name s) step room number why.0

-- one that was made, whose evidence found no memory
pub shifted_memory : {X E : Type 0} (result : Result X E) (t : NamedTimeline) (target : Target) (place : ℕ) (done : Step) → length t.rows < most_rows → t.next < next_limit
    → shift_at t.rows target t.next place ≡ Some done → failure t.kind (edited_by t.rows done) ≡ None → OnErr result (ShiftIsNotRefused t target place)
shifted_memory (Ok x) t target place done room number is valid = tt
shifted_memory (Err e) t target place done room number is valid =
    λ step at. rw (one_value (shift_at t.rows target t.next place) step done at is) (shift_is_not_refused t done room number valid)

pub shifts_memory : {X E : Type 0} (result : Result X E) (t : NamedTimeline) (number place : ℕ) (target : Target) → place_of_row number t.rows ≡ Some place → place < length t.rows
    → OnErr result (ShiftIsNotRefused t target place) → OnErr result (IsNotRefused (shifts t number target))
shifts_memory (Ok x) t number place target there within stands = tt
shifts_memory (Err e) t number place target there within stands =
    let step = step_there t target place within in
    subst IsNotRefused (sym (shifts_step t number place target step.0 there step.1)) (stands step.0 step.1)

-- a step that is undone, or redone
undo_is_not_refused : (t : NamedTimeline) (step : Step) → newest_step t.history.undo ≡ Some step → IsNotRefused (undoes t)
undo_is_not_refused t step there = subst IsNotRefused (sym (undoes_newest t step there)) (reported_is_no_refusal t.name t.kind t.rows (inverse_step step) Accepted refl)

redo_is_not_refused : (t : NamedTimeline) (step : Step) → newest_step t.history.redo ≡ Some step → IsNotRefused (redoes t)
redo_is_not_refused t step there = subst IsNotRefused (sym (redoes_newest t step there)) (reported_is_no_refusal t.name t.kind t.rows step Accepted refl)

undo_found : (t : NamedTimeline) (found : Option Step) (newest : Step) → newest_step t.history.undo ≡ found → option_map inverse_step found ≡ Some newest → IsNotRefused (undoes t)
undo_found t None newest there is = absurd (cc)
undo_found t (Some step) newest there is = undo_is_not_refused t step there

pub undo_memory : (name : List ℕ) (s after : SessionState) (error : UndoError) → error ≡ undos.NoMemory
    → IsLeftByUndo s (option_map inverse_step (newest_step s.history.undo)) after error → IsNotRefused (undoes (named name s))
undo_memory name s after undos.Nothing is left = absurd (cc)
undo_memory name s after undos.NoMemory is (newest, there, rest) = undo_found (named name s) (newest_step s.history.undo) newest refl there

pub redo_memory : (name : List ℕ) (s after : SessionState) (error : UndoError) → error ≡ undos.NoMemory
    → IsLeftByUndo s (newest_step s.history.redo) after error → IsNotRefused (redoes (named name s))
redo_memory name s after undos.Nothing is left = absurd (cc)
redo_memory name s after undos.NoMemory is (newest, there, rest) = redo_is_not_refused (named name s) newest there

-- one that was made, whose evidence found no memory
pub undone_memory : {X E : Type 0} (result : Result X E) (t : NamedTimeline) (step : Step) → newest_step t.history.undo ≡ Some step → OnErr result (IsNotRefused (undoes t))
undone_memory (Ok x) t step there = tt
undone_memory (Err e) t step there = undo_is_not_refused t step there

pub redone_memory : {X E : Type 0} (result : Result X E) (t : NamedTimeline) (step : Step) → newest_step t.history.redo ≡ Some step → OnErr result (IsNotRefused (redoes t))
redone_memory (Ok x) t step there = tt
redone_memory (Err e) t step there = redo_is_not_refused t step there

-- an outcome that is no refusal
pub never_refused : {X E : Type 0} (result : Result X E) → OnErr result (false ≡ false)
never_refused (Ok x) = tt
never_refused (Err e) = refl
