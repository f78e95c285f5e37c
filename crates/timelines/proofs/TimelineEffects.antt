-- What a timeline makes of an edit and of a question, case by case.
use Rattle.std.proofs.Common.{◌≡◌, ℕ, zero, suc, ◌+◌, nat_le, ◌<◌, ◌≤◌, true, false, List, [], ◌∷◌, arith, length, slice_get, refl, sym, ◌∙◌, ap, subst, Option, Some, None}
use Rattle.std.specs.Prelude.{option_map, option_and_then, Result, Ok, Err, IfSome, IfOk}
use Rattle.std.proofs.Math.Seq.{take-length}
use Rattle.retro_base.specs.declared.kind.Kind.{Kind}
use Rattle.retro_base.specs.declared.op.Op.{Op}
use Rattle.retro_base.specs.declared.question.Question.{Question}
use Rattle.retro_base.specs.declared.row.Row.{Row}
use Rattle.retro_base.specs.Edits.{Edit, Step, add, cut, edited, edited_by, inverse_step}
use Rattle.retro_base.specs.Limits.{most_rows, next_limit}
use Rattle.retro_base.specs.History.{newest_step}
use Rattle.retro_base.specs.Shift.{shift_at, shift_of}
use Rattle.retro_base.specs.declared.target.Target.{Target}
use Rattle.retro_base.specs.declared.target.Target.TheVariants.{Into}
use Rattle.timeline_undo.specs.Session.{SessionState, AreMade, FailsFirst, IsCause, IsLeftByUndo, IsShiftUnmade, IsUnmade, step_reported}
use Rattle.timeline_undo.specs.declared.turn.Turns.{Turns}
use Rattle.timeline_undo.specs.declared.turn.Turns.TheVariants.{Single, Double}
use Rattle.timeline_undo.specs.declared.error.UndoError.{UndoError}
use Rattle.timeline_undo.specs.declared.error.UndoError.TheVariants as undos
use Rattle.timeline_undo.specs.declared.error.EditError.{EditError}
use Rattle.timeline_undo.specs.declared.error.EditError.TheVariants as errors
use Rattle.costs.specs.declared.memory.NoMemory.{NoMemory}
use Rattle.timelines.specs.EditErrors.{IsRefusedBy}
use Rattle.retro_base.specs.Kind.{kind_of, same_kind}
use Rattle.retro_base.specs.Replay.{failure, present, state_at}
use Rattle.retro_base.specs.Answers.{answer_of, content}
use Rattle.retro_base.specs.Questions.{suits}
use Rattle.retro_base.specs.Places.{place_of_time, place_of_row}
use Rattle.retro_base.specs.Timeline.{TimesNeverFall}
use Rattle.script_grammar.specs.declared.command.Spot.{Spot}
use Rattle.script_grammar.specs.declared.command.Spot.TheVariants.{At, Before, After}
use Rattle.script_grammar.specs.declared.command.Moment.TheVariants.{Now, Then}
use Rattle.script_grammar.specs.declared.command.Query.TheVariants.{One, All}
use Rattle.reactions.specs.declared.outcome.Outcome.{Outcome}
use Rattle.reactions.specs.declared.outcome.Outcome.TheVariants.{Accepted, Answered, Inserted, Listed, Refused}
use Rattle.reactions.specs.declared.outcome.Refusal.TheVariants as refusals
use Rattle.reactions.specs.declared.position.Position.{Position}
use Rattle.reactions.specs.Bench.{NamedTimeline}
use Rattle.timelines.specs.Kept.{named}
use Rattle.std.proofs.lemmas.Bool.{lt-leb}
use Rattle.retro_base.specs.Order.{Fits}
use Rattle.reactions.specs.TimelineEffects.{TimelineEffect, refuses, row_named, position_before, next_position, position_of, inserts_there, new_row, after_step, makes, edits, where_one_fits}
use Rattle.reactions.specs.TimelineEffects.{tells, inserts, deletes, shifts_there, shifts_by, shifts, changes, answers, undoes_step, undoes, redoes_step, redoes}
use Rattle.retro_base.specs.OrderLaws.{time_fits, fits_before, fits_after}
use Rattle.retro_base.specs.Facts.{one_value}

pub inserts_other_kind : (t : NamedTimeline) (spot : Spot) (op : Op) → same_kind (kind_of op) t.kind ≡ false → inserts t spot op ≡ refuses t refusals.Kind
unfolding inserts
inserts_other_kind t spot op other = rw other refl

pub inserts_nowhere : (t : NamedTimeline) (spot : Spot) (op : Op) → same_kind (kind_of op) t.kind ≡ true → position_of spot t.rows ≡ None
    → inserts t spot op ≡ refuses t (refusals.NoRow (row_named spot))
unfolding inserts
inserts_nowhere t spot op same nowhere = rw (same, nowhere) refl

pub inserts_at_position : (t : NamedTimeline) (spot : Spot) (op : Op) (position : Position) → same_kind (kind_of op) t.kind ≡ true → position_of spot t.rows ≡ Some position
    → inserts t spot op ≡ inserts_there t op position
unfolding inserts
inserts_at_position t spot op position same there = rw (same, there) refl

pub deletes_nothing : (t : NamedTimeline) (number : ℕ) → place_of_row number t.rows ≡ None → deletes t number ≡ refuses t (refusals.NoRow number)
unfolding deletes
deletes_nothing t number nowhere = rw nowhere refl

-- an edit after which a row fails is refused, and the row named; one after which none does is accepted
pub edits_fails : (t : NamedTimeline) (edit : Edit) (next : ℕ) (outcome : Outcome) (number time : ℕ) → FailsFirst t.kind (edited t.rows edit) number time
    → edits t edit next outcome ≡ refuses t (refusals.At number time)
edits_fails t edit next outcome number time (index, row, fails, at, same_number, same_time) =
    rw (fails, at, ← same_number, ← same_time) refl

pub edits_accepted : (t : NamedTimeline) (edit : Edit) (next : ℕ) (outcome : Outcome) → failure t.kind (edited t.rows edit) ≡ None
    → edits t edit next outcome ≡ record { timeline = after_step t (edit ∷ []) next; outcome = tells t (edit ∷ []) outcome }
edits_accepted t edit next outcome none = rw none refl

-- and so is a step
pub makes_fails : (t : NamedTimeline) (step : Step) (next : ℕ) (outcome : Outcome) (number time : ℕ) → FailsFirst t.kind (edited_by t.rows step) number time
    → makes t step next outcome ≡ refuses t (refusals.At number time)
makes_fails t step next outcome number time (index, row, fails, at, same_number, same_time) =
    rw (fails, at, ← same_number, ← same_time) refl

pub makes_accepted : (t : NamedTimeline) (step : Step) (next : ℕ) (outcome : Outcome) → failure t.kind (edited_by t.rows step) ≡ None
    → makes t step next outcome ≡ record { timeline = after_step t step next; outcome = tells t step outcome }
makes_accepted t step next outcome none = rw none refl

-- a row is replaced where it stands, and there is room and a number
pub shifts_nothing : (t : NamedTimeline) (number : ℕ) (target : Target) → place_of_row number t.rows ≡ None → shifts t number target ≡ refuses t (refusals.NoRow number)
unfolding shifts
shifts_nothing t number target nowhere = rw nowhere refl

pub shifts_step : (t : NamedTimeline) (number place : ℕ) (target : Target) (step : Step) → place_of_row number t.rows ≡ Some place
    → shift_at t.rows target t.next place ≡ Some step → shifts t number target ≡ shifts_there t step
unfolding shifts
shifts_step t number place target step there at = ap (λ p. shifts_by t number (option_and_then (shift_at t.rows target t.next) p)) there ∙ ap (shifts_by t number) at

pub shifts_makes : (t : NamedTimeline) (step : Step) → nat_le most_rows (length t.rows) ≡ false → nat_le next_limit t.next ≡ false
    → shifts_there t step ≡ makes t step (t.next + 1) (Inserted t.next)
shifts_makes t step room number = rw (room, number) refl

-- an index without an element is past the end
pub slice_get_none : {X : Type 0} (xs : List X) (i : ℕ) → slice_get xs i ≡ None → length xs ≤ i
slice_get_none [] i none = omega arith
slice_get_none (x ∷ xs) zero none = absurd (cc)
slice_get_none (x ∷ xs) (suc i) none = omega (arith, slice_get_none xs i none)

-- a step stands there
pub step_there : (t : NamedTimeline) (target : Target) (place : ℕ) → place < length t.rows → (step : Step) × (shift_at t.rows target t.next place ≡ Some step)
step_there t target place within =
    elim (slice_get t.rows place) as (λ o. slice_get t.rows place ≡ o → (step : Step) × (shift_at t.rows target t.next place ≡ Some step)) [
      | None ↦ λ none. absurd (omega (arith, slice_get_none t.rows place none))
      | Some row ↦ λ there. (shift_of t.rows target t.next place row, ap (option_map (shift_of t.rows target t.next place)) there)
    ] refl

-- what becomes of the row at a place, where there is a step that replaces it
abbrev pub ShiftsAt : NamedTimeline → Target → ℕ → TimelineEffect → Type 0
ShiftsAt t target place effect = (step : Step) → shift_at t.rows target t.next place ≡ Some step → shifts_there t step ≡ effect

pub shifts_at_place : (t : NamedTimeline) (number place : ℕ) (target : Target) (effect : TimelineEffect) → place_of_row number t.rows ≡ Some place → place < length t.rows
    → ShiftsAt t target place effect → shifts t number target ≡ effect
shifts_at_place t number place target effect there within leads =
    let step = step_there t target place within in
    shifts_step t number place target step.0 there step.1 ∙ leads step.0 step.1

pub shifted_ok : {E : Type 0} (result : Result Outcome E) (t after : NamedTimeline) (number place : ℕ) (target : Target) → place_of_row number t.rows ≡ Some place → place < length t.rows
    → IfOk result (λ outcome. ShiftsAt t target place (record { timeline = after; outcome = outcome }))
    → IfOk result (λ outcome. shifts t number target ≡ record { timeline = after; outcome = outcome })
shifted_ok (Ok outcome) t after number place target there within leads = shifts_at_place t number place target (record { timeline = after; outcome = outcome }) there within leads
shifted_ok (Err e) t after number place target there within leads = tt

pub at_step : (P : Step → Type 0) (step : Step) (found : Option Step) → found ≡ Some step → IfSome found P → P step
at_step P step None same holds = absurd (cc)
at_step P step (Some other) same holds = let is : other ≡ step = cc in subst P is holds

-- the refusal of a step by the cause that it has
pub shift_refused : (name : List ℕ) (s after : SessionState) (target : Target) (place : ℕ) (error : EditError) (result : Result Outcome NoMemory)
    → length s.rows < most_rows → s.next < next_limit
    → IsShiftUnmade s place target after error → IsRefusedBy error result
    → IfOk result (λ outcome. ShiftsAt (named name s) target place (record { timeline = named name after; outcome = outcome }))
shift_refused name s after target place (errors.Fails failing time) result room number unmade refused =
    rw refused (λ step at.
    let why : IsUnmade s step after (errors.Fails failing time) = at_step (λ q. IsUnmade s q after (errors.Fails failing time)) step (shift_at s.rows target s.next place) at unmade in
    rw why.1 (shifts_makes (named name s) step (lt-leb most_rows (length s.rows) room) (lt-leb next_limit s.next number)
    ∙ makes_fails (named name s) step (s.next + 1) (Inserted s.next) failing time why.0))
shift_refused name s after target place errors.NoMemory (Ok outcome) room number unmade refused = absurd (refused outcome refl)
shift_refused name s after target place errors.NoMemory (Err error) room number unmade refused = tt

pub shift_accepted : (t : NamedTimeline) (target : Target) (place : ℕ) (done : Step) → nat_le most_rows (length t.rows) ≡ false → nat_le next_limit t.next ≡ false
    → shift_at t.rows target t.next place ≡ Some done → failure t.kind (edited_by t.rows done) ≡ None
    → ShiftsAt t target place (record { timeline = after_step t done (t.next + 1); outcome = tells t done (Inserted t.next) })
shift_accepted t target place done room number is valid =
    λ step at.
    let same = one_value (shift_at t.rows target t.next place) step done at is in
    rw same (shifts_makes t done room number ∙ makes_accepted t done (t.next + 1) (Inserted t.next) valid)

pub shifted_told : {E : Type 0} (result : Result Outcome E) (t after : NamedTimeline) (target : Target) (place : ℕ) (done : Step)
    → length t.rows < most_rows → t.next < next_limit → shift_at t.rows target t.next place ≡ Some done
    → failure t.kind (edited_by t.rows done) ≡ None → after ≡ after_step t done (t.next + 1)
    → IfOk result (λ outcome. outcome ≡ tells t done (Inserted t.next))
    → IfOk result (λ outcome. ShiftsAt t target place (record { timeline = after; outcome = outcome }))
shifted_told (Ok outcome) t after target place done room number is valid same told =
    rw (same, told) (shift_accepted t target place done (lt-leb most_rows (length t.rows) room) (lt-leb next_limit t.next number) is valid)
shifted_told (Err e) t after target place done room number is valid same told = tt

-- after a step that was made the rows replay
pub made_replays : (kind : Kind) (rows : List Row) (turns : Turns) → AreMade kind rows turns → failure kind (edited_by rows (step_reported turns)) ≡ None
made_replays kind rows (Single turn) made = made.after.valid
made_replays kind rows (Double first second) made = made.1.after.valid

pub changes_other_kind : (t : NamedTimeline) (number : ℕ) (op : Op) → same_kind (kind_of op) t.kind ≡ false → changes t number op ≡ refuses t refusals.Kind
unfolding changes
changes_other_kind t number op other = rw other refl

pub changes_into : (t : NamedTimeline) (number : ℕ) (op : Op) → same_kind (kind_of op) t.kind ≡ true → changes t number op ≡ shifts t number (Into op)
unfolding changes
changes_into t number op same = rw same refl

-- a row is deleted that stands at a place
pub deletes_there : (t : NamedTimeline) (number place : ℕ) (row : Row) → place_of_row number t.rows ≡ Some place → slice_get t.rows place ≡ Some row
    → deletes t number ≡ edits t (cut place row) t.next Accepted
unfolding deletes
deletes_there t number place row there at = rw (there, at) refl

-- what an edit alone makes is refused by the cause that the edit has
pub edit_refused : (t : NamedTimeline) (effect : TimelineEffect) (edit : Edit) (next : ℕ) (plain : Outcome) (error : EditError) (result : Result Outcome NoMemory)
    → effect ≡ edits t edit next plain → IsCause t.kind t.rows edit error → IsRefusedBy error result
    → IfOk result (λ outcome. effect ≡ record { timeline = t; outcome = outcome })
edit_refused t effect edit next plain (errors.Fails failing time) result is cause refused = rw refused (is ∙ edits_fails t edit next plain failing time cause)
edit_refused t effect edit next plain errors.NoMemory (Ok outcome) is cause refused = absurd (refused outcome refl)
edit_refused t effect edit next plain errors.NoMemory (Err error) is cause refused = tt

refused_found : (t : NamedTimeline) (number place : ℕ) (found : Option Row) (error : EditError) (result : Result Outcome NoMemory) → place_of_row number t.rows ≡ Some place
    → place < length t.rows → slice_get t.rows place ≡ found → IfSome found (λ row. IsCause t.kind t.rows (cut place row) error) → IsRefusedBy error result
    → IfOk result (λ outcome. deletes t number ≡ record { timeline = t; outcome = outcome })
refused_found t number place None error result there within at cause refused = absurd (omega (arith, slice_get_none t.rows place at))
refused_found t number place (Some row) error result there within at cause refused =
    edit_refused t (deletes t number) (cut place row) t.next Accepted error result (deletes_there t number place row there at) cause refused

pub deletes_refused : (t : NamedTimeline) (number place : ℕ) (error : EditError) (result : Result Outcome NoMemory) → place_of_row number t.rows ≡ Some place
    → place < length t.rows → IfSome (slice_get t.rows place) (λ row. IsCause t.kind t.rows (cut place row) error) → IsRefusedBy error result
    → IfOk result (λ outcome. deletes t number ≡ record { timeline = t; outcome = outcome })
deletes_refused t number place error result there within cause refused =
    refused_found t number place (slice_get t.rows place) error result there within refl cause refused

-- a row is inserted at the position of its spot, where one more fits
pub inserts_fitting : (t : NamedTimeline) (spot : Spot) (op : Op) (position : Position) → same_kind (kind_of op) t.kind ≡ true → position_of spot t.rows ≡ Some position
    → ((made : TimelineEffect) → where_one_fits t made ≡ made)
    → inserts t spot op ≡ edits t (add position.place (new_row t position op)) (t.next + 1) (Inserted t.next)
inserts_fitting t spot op position same there fits =
    inserts_at_position t spot op position same there ∙ fits (edits t (add position.place (new_row t position op)) (t.next + 1) (Inserted t.next))

-- steps that are undone and redone, where there are some
pub undoes_nothing : (t : NamedTimeline) → t.history.undo ≡ [] → undoes t ≡ refuses t refusals.NothingToUndo
unfolding undoes
undoes_nothing t none = rw none refl

pub undoes_newest : (t : NamedTimeline) (step : Step) → newest_step t.history.undo ≡ Some step → undoes t ≡ undoes_step t (Some step)
unfolding undoes
undoes_newest t step there = rw there refl

pub undone_told : {E : Type 0} (result : Result Outcome E) (t after : NamedTimeline) (step : Step) → newest_step t.history.undo ≡ Some step
    → after ≡ (undoes_step t (Some step)).timeline → IfOk result (λ outcome. outcome ≡ tells t (inverse_step step) Accepted)
    → IfOk result (λ outcome. undoes t ≡ record { timeline = after; outcome = outcome })
undone_told (Ok outcome) t after step there same told = rw (same, told) (undoes_newest t step there)
undone_told (Err e) t after step there same told = tt

-- after a refusal the session is as before
pub left_by_nothing : (before after : SessionState) (step : Option Step) (error : UndoError) → error ≡ undos.Nothing → IsLeftByUndo before step after error → after ≡ before
left_by_nothing before after step undos.Nothing is left = left.1
left_by_nothing before after step undos.NoMemory is left = absurd (cc)

pub redoes_nothing : (t : NamedTimeline) → t.history.redo ≡ [] → redoes t ≡ refuses t refusals.NothingToRedo
unfolding redoes
redoes_nothing t none = rw none refl

pub redoes_newest : (t : NamedTimeline) (step : Step) → newest_step t.history.redo ≡ Some step → redoes t ≡ redoes_step t (Some step)
unfolding redoes
redoes_newest t step there = rw there refl

pub redone_told : {E : Type 0} (result : Result Outcome E) (t after : NamedTimeline) (step : Step) → newest_step t.history.redo ≡ Some step
    → after ≡ (redoes_step t (Some step)).timeline → IfOk result (λ outcome. outcome ≡ tells t step Accepted)
    → IfOk result (λ outcome. redoes t ≡ record { timeline = after; outcome = outcome })
redone_told (Ok outcome) t after step there same told = rw (same, told) (redoes_newest t step there)
redone_told (Err e) t after step there same told = tt

pub answers_unsuited : (t : NamedTimeline) (moment : Rattle.script_grammar.specs.declared.command.Moment.Moment) (question : Question) → suits question t.kind ≡ false
    → answers t moment (One question) ≡ Refused refusals.Kind
unfolding answers
answers_unsuited t moment question unsuited = rw unsuited refl

pub answers_now : (t : NamedTimeline) (question : Question) → suits question t.kind ≡ true → answers t Now (One question) ≡ Answered (answer_of (present t.kind t.rows) question)
unfolding answers
answers_now t question suited = rw (suited, take-length t.rows) refl

pub answers_nowhere : (t : NamedTimeline) (spot : Spot) (question : Question) → suits question t.kind ≡ true → position_of spot t.rows ≡ None
    → answers t (Then spot) (One question) ≡ Refused (refusals.NoRow (row_named spot))
unfolding answers
answers_nowhere t spot question suited nowhere = rw (suited, nowhere) refl

pub answers_there : (t : NamedTimeline) (spot : Spot) (question : Question) (position : Position) → suits question t.kind ≡ true → position_of spot t.rows ≡ Some position
    → answers t (Then spot) (One question) ≡ Answered (answer_of (state_at t.kind t.rows position.place) question)
unfolding answers
answers_there t spot question position suited there = rw (suited, there) refl

pub lists_now : (t : NamedTimeline) → answers t Now All ≡ Listed (content (state_at t.kind t.rows (length t.rows)))
unfolding answers
lists_now t = refl

pub lists_nowhere : (t : NamedTimeline) (spot : Spot) → position_of spot t.rows ≡ None → answers t (Then spot) All ≡ Refused (refusals.NoRow (row_named spot))
unfolding answers
lists_nowhere t spot nowhere = rw nowhere refl

pub lists_there : (t : NamedTimeline) (spot : Spot) (position : Position) → position_of spot t.rows ≡ Some position
    → answers t (Then spot) All ≡ Listed (content (state_at t.kind t.rows position.place))
unfolding answers
lists_there t spot position there = rw there refl

-- a row that a position is in front of
record InFrontOf (rows : List Row) (position : Position) : Type 0 where
  row : Row
  there : slice_get rows position.place ≡ Some row
  same_time : row.time ≡ position.time

abbrev position_at : ℕ → Row → Position
position_at place row = record { place = place; time = row.time }

found_in_front : (rows : List Row) (place : ℕ) (found : Option Row) (position : Position) → slice_get rows place ≡ found
    → option_map (position_at place) found ≡ Some position → InFrontOf rows position
found_in_front rows place None position at is = absurd (cc)
found_in_front rows place (Some row) position at is =
    let same : position_at place row ≡ position = cc in
    record { row = row; there = ap (λ (s : Position). slice_get rows s.place) (sym same) ∙ at; same_time = ap (λ (s : Position). s.time) same }

in_front : (rows : List Row) (found : Option ℕ) (position : Position) → option_and_then (λ place. option_map (position_at place) (slice_get rows place)) found ≡ Some position
    → InFrontOf rows position
in_front rows None position is = absurd (cc)
in_front rows (Some place) position is = found_in_front rows place (slice_get rows place) position refl is

position_before_fits : (rows : List Row) (position : Position) → TimesNeverFall rows → InFrontOf rows position → Fits rows position.place position.time
position_before_fits rows position never front = rw front.same_time at (fits_before rows position.place front.row never front.there)

position_after_fits : (rows : List Row) (before : Option Position) (position : Position) → TimesNeverFall rows → ((s : Position) → before ≡ Some s → InFrontOf rows s)
    → option_map next_position before ≡ Some position → Fits rows position.place position.time
position_after_fits rows None position never front is = absurd (cc)
position_after_fits rows (Some s) position never front is =
    let same : next_position s ≡ position = cc in
    let here = front s refl in
    let fits : Fits rows (next_position s).place (next_position s).time = rw here.same_time at (fits_after rows s.place here.row never here.there) in
    subst (λ (s : Position). Fits rows s.place s.time) same fits

-- the position of a spot fits
pub position_fits : (spot : Spot) (rows : List Row) (position : Position) → TimesNeverFall rows → position_of spot rows ≡ Some position → Fits rows position.place position.time
position_fits (At time) rows position never is =
    let same : ◌≡◌ {A = Position} (record { place = place_of_time time rows; time = time }) position = cc in
    subst (λ (s : Position). Fits rows s.place s.time) same (time_fits time rows never)
position_fits (Before number) rows position never is = position_before_fits rows position never (in_front rows (place_of_row number rows) position is)
position_fits (After number) rows position never is =
    position_after_fits rows (position_before number rows) position never (λ s e. in_front rows (place_of_row number rows) s e) is
