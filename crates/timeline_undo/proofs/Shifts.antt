-- A row that is replaced: that the list between the two edits is a timeline, and what the row that fails says of the step.
use Rattle.std.proofs.Common.{◌≡◌, ℕ, zero, suc, ◌+◌, ◌<◌, ◌≤◌, Bool, true, false, List, [], ◌∷◌, length, slice_get, Option, Some, None, IfSome, refl, sym, ◌∙◌, ap, subst, arith}
use Rattle.std.specs.List.{insert, remove, AllByRecursion}
use Rattle.std.specs.Option.{option_and_then, option_map}
use Rattle.std.proofs.lemmas.List.Edits.{length-remove}
use Rattle.circular_buffer.specs.Buffer.{Buffer}
use Rattle.retro_base.specs.declared.kind.Kind.{Kind}
use Rattle.retro_base.specs.declared.row.Row.{Row}
use Rattle.retro_base.specs.EditedLists.{can_go_back, remove-insert}
use Rattle.retro_base.specs.Edits.{Edit, Step, add, cut, edited_by, failing_row}
use Rattle.retro_base.specs.Kind.{adds, kind_of}
use Rattle.retro_base.specs.Limits.{most_rows}
use Rattle.retro_base.specs.Order.{Fits}
use Rattle.retro_base.specs.OrderLaws.{all_at, all_with, all_without, fits_before, time_fits, times_without}
use Rattle.retro_base.specs.Replay.{failure, run, IsValid}
use Rattle.retro_base.specs.ReplayableLaws.{replayable_with, replayable_without}
use Rattle.retro_base.specs.State.{empty, step}
use Rattle.retro_base.specs.Timeline.{AreOfKind, IsTimeline, TimesNeverFall}
use Rattle.retro_base.specs.TimelineLaws.{next_is_fresh, timeline_with, timeline_without}
use Rattle.retro_base.specs.lemmas.Counted.{of_kind_at}
use Rattle.retro_base.specs.lemmas.Folds.{err_within}
use Rattle.retro_base.specs.lemmas.GivingEdits.{adding_row_replays, taking_row_can_go}
use Rattle.timeline_undo.specs.declared.replacement.Replacement.{Replacement}
use Rattle.retro_base.specs.declared.target.Target.{Target}
use Rattle.retro_base.specs.declared.target.Target.TheVariants.{At, Into}
use Rattle.timeline_undo.specs.KeptSteps.{CanBeMadeInTurn, steps_of, undone_steps_of}
use Rattle.timeline_undo.specs.Replaced.{Replaces, before_without, replaced, replacement_of, step_of_replacement}
use Rattle.timeline_undo.specs.declared.error.EditError.{EditError}
use Rattle.timeline_undo.specs.declared.turn.Turn.{Turn}
use Rattle.timeline_undo.specs.declared.turn.Turns.{Turns}
use Rattle.timeline_undo.specs.declared.turn.Turns.TheVariants.{Single, Double}
use Rattle.timeline_undo.specs.Session.{FailsFirst, HasRoom, IsLeftByShift, IsShiftUnmade, IsStepCause, IsUnmade, SessionState, step_reported}
use Rattle.retro_base.specs.Shift.{IsTargetOf, index_after, place_for, put_then_cut, cut_then_put, replacing, shift_at, shift_of}
use Rattle.timeline_undo.proofs.InTurn.{timeline_later}
use Rattle.timeline_undo.proofs.Replaced.{edited_is_replaced, replacement_is_shift}
use Rattle.timeline_undo.proofs.Steps.{place_within, stands_after_put, within_of}
use Rattle.std.proofs.lemmas.Option.{slice_get_within}
use Rattle.retro_base.specs.Facts.{there_is_one}
use Rattle.retro_base.specs.Outcomes.{err_of}

-- a row of a timeline may be replaced
pub record MayShift (kind : Kind) (rows : List Row) (next : ℕ) (target : Target) (index : ℕ) (old : Row) : Type 0 where
  pub timeline : IsTimeline kind rows next
  pub room : HasRoom rows next
  pub of_kind : IsTargetOf kind target
  pub there : slice_get rows index ≡ Some old

pub may_shift : (kind : Kind) (rows : List Row) (next : ℕ) (target : Target) (index : ℕ) (old : Row) → IsTimeline kind rows next → HasRoom rows next
    → IsTargetOf kind target → slice_get rows index ≡ Some old → MayShift kind rows next target index old
may_shift kind rows next target index old timeline room of_kind there =
    record { timeline = timeline; room = room; of_kind = of_kind; there = there }

new_of_kind : (kind : Kind) (target : Target) (number : ℕ) (old : Row) → kind_of old.op ≡ kind → IsTargetOf kind target → kind_of (replacing target number old).op ≡ kind
new_of_kind kind (At time) number old was here = was
new_of_kind kind (Into op) number old was here = here

drawn_number : (target : Target) (number : ℕ) (old : Row) → (replacing target number old).number ≡ number
drawn_number (At time) number old = refl
drawn_number (Into op) number old = refl

module _ (kind : Kind) (rows : List Row) (next : ℕ) (target : Target) (index : ℕ) (old : Row) (may : MayShift kind rows next target index old) where
  old_of_kind : kind_of old.op ≡ kind
  old_of_kind = of_kind_at kind rows index old may.timeline.replayable.of_kind may.there

  here : kind_of (replacing target next old).op ≡ kind
  here = new_of_kind kind target next old old_of_kind may.of_kind

  before_within : place_for target index rows ≤ length rows
  before_within = place_within target index rows (within_of rows index old may.there)

  -- the rows after both edits
  pub shift_is_replaced : edited_by rows (shift_of rows target next index old) ≡ replaced rows (replacement_of rows target next index old)
  shift_is_replaced =
      ap (edited_by rows) (sym (replacement_is_shift rows target next index old may.timeline.in_order may.there))
      ∙ edited_is_replaced rows (replacement_of rows target next index old) may.there before_within

  -- the row may be replaced
  pub shift_replaces : Replaces kind rows (replacement_of rows target next index old)
  shift_replaces = record { there = may.there; within = before_within; of_kind = here }

-- the row that fails is named
fails_by : (kind : Kind) (rows : List Row) (failing : Row) (first : Option ℕ) → failure kind rows ≡ first
    → option_and_then (slice_get rows) first ≡ Some failing → FailsFirst kind rows failing.number failing.time
fails_by kind rows failing None e named = absurd (cc)
fails_by kind rows failing (Some index) e named = (index, failing, e, named, refl, refl)

pub fails_first : (kind : Kind) (rows : List Row) (failing : Row) → failing_row kind rows ≡ Some failing → FailsFirst kind rows failing.number failing.time
fails_first kind rows failing named = fails_by kind rows failing (failure kind rows) refl named

none_by : (kind : Kind) (rows : List Row) (first : Option ℕ) → failure kind rows ≡ first → option_and_then (slice_get rows) first ≡ None → failure kind rows ≡ None
none_by kind rows None e none = e
none_by kind rows (Some index) e none = absurd (there_is_one rows index (err_within step rows (empty kind) index (err_of (run rows (empty kind)) index e)) none)

pub none_fails : (kind : Kind) (rows : List Row) → failing_row kind rows ≡ None → failure kind rows ≡ None
none_fails kind rows none = none_by kind rows (failure kind rows) refl none

-- where a time fits once the row that had it is gone
fits_left : (rows : List Row) (index : ℕ) (old : Row) → TimesNeverFall rows → slice_get rows index ≡ Some old → Fits (remove rows index) index old.time
fits_left [] index old never there = absurd (cc)
fits_left (row ∷ rows) zero old never there = let same : row ≡ old = cc in subst (λ (r : Row). AllByRecursion (λ later. r.time ≤ later.time) rows) same never.0
fits_left (row ∷ rows) (suc index) old never there =
    (all_at (λ r. row.time ≤ r.time) rows index old never.0 there, fits_left rows index old never.1 there)

fits_present : (target : Target) (rows : List Row) (number index : ℕ) (old : Row) → TimesNeverFall rows → slice_get rows index ≡ Some old
    → Fits rows (place_for target index rows) (replacing target number old).time
fits_present (At time) rows number index old never there = time_fits time rows never
fits_present (Into op) rows number index old never there = fits_before rows index old never there

fits_without : (target : Target) (rows : List Row) (number index : ℕ) (old : Row) → TimesNeverFall rows → slice_get rows index ≡ Some old
    → Fits (remove rows index) (place_for target index (remove rows index)) (replacing target number old).time
fits_without (At time) rows number index old never there = time_fits time (remove rows index) (times_without rows index never)
fits_without (Into op) rows number index old never there = fits_left rows index old never there

-- both edits can be made, and each leaves a timeline, where the rows after both replay
module _ (kind : Kind) (rows : List Row) (next : ℕ) (target : Target) (index : ℕ) (old : Row) (may : MayShift kind rows next target index old) where
  new_here : kind_of (replacing target next old).op ≡ kind
  new_here = new_of_kind kind target next old (of_kind_at kind rows index old may.timeline.replayable.of_kind may.there) may.of_kind

  put_within : place_for target index rows ≤ length rows
  put_within = place_within target index rows (within_of rows index old may.there)

  put_leads : adds (replacing target next old).op ≡ true → IsTimeline kind (insert rows (place_for target index rows) (replacing target next old)) (next + 1)
  put_leads adding =
      timeline_with kind rows next (place_for target index rows) (replacing target next old) may.timeline may.room.1 (drawn_number target next old)
      (fits_present target rows next index old may.timeline.in_order may.there)
      (replayable_with kind rows (place_for target index rows) (replacing target next old) may.timeline.replayable may.room.0 put_within
      (rw (drawn_number target next old) (next_is_fresh kind rows next may.timeline)) new_here
      (adding_row_replays kind rows (place_for target index rows) (replacing target next old) may.timeline.replayable.of_kind may.timeline.replayable.valid new_here adding))

  pub put_stands : adds (replacing target next old).op ≡ true
      → IsValid kind (edited_by rows (put_then_cut (place_for target index rows) (replacing target next old) index old))
      → CanBeMadeInTurn kind (next + 1) rows (put_then_cut (place_for target index rows) (replacing target next old) index old)
  put_stands adding valid =
      let there = stands_after_put rows (place_for target index rows) index (replacing target next old) old may.there in
      let middle = put_leads adding in (
        record { within = put_within; timeline = middle },
        (
          record {
            within = there;
            timeline = timeline_without kind (insert rows (place_for target index rows) (replacing target next old)) (next + 1) (index_after (place_for target index rows) index) middle
                (replayable_without kind _ (index_after (place_for target index rows) index) middle.replayable valid);
          },
          tt,
        ),
      )

  cut_within : place_for target index (remove rows index) ≤ length (remove rows index)
  cut_within = place_within target index (remove rows index) (can_go_back rows (cut index old) may.there)

  cut_leads : adds (replacing target next old).op ≡ false
      → IsValid kind (insert (remove rows index) (place_for target index (remove rows index)) (replacing target next old)) → IsTimeline kind (remove rows index) next
  cut_leads taking valid =
      let without_all : AreOfKind kind (remove rows index) = all_without (λ (r : Row). kind_of r.op ≡ kind) rows index may.timeline.replayable.of_kind in
      let final_all : AreOfKind kind (insert (remove rows index) (place_for target index (remove rows index)) (replacing target next old)) =
      all_with (λ (r : Row). kind_of r.op ≡ kind) (remove rows index) (place_for target index (remove rows index)) (replacing target next old) without_all new_here in
      let middle_valid : IsValid kind (remove rows index) =
      rw (remove-insert (remove rows index) (place_for target index (remove rows index)) (replacing target next old) cut_within) at
      (taking_row_can_go kind (insert (remove rows index) (place_for target index (remove rows index)) (replacing target next old)) (place_for target index (remove rows index))
      (replacing target next old) final_all valid
      (can_go_back (remove rows index) (add (place_for target index (remove rows index)) (replacing target next old)) cut_within) taking) in
      timeline_without kind rows next index may.timeline (replayable_without kind rows index may.timeline.replayable middle_valid)

  pub cut_stands : adds (replacing target next old).op ≡ false
      → IsValid kind (edited_by rows (cut_then_put index old (place_for target index (remove rows index)) (replacing target next old)))
      → CanBeMadeInTurn kind (next + 1) rows (cut_then_put index old (place_for target index (remove rows index)) (replacing target next old))
  cut_stands taking valid =
      let middle = cut_leads taking valid in
      let fewer : length (remove rows index) < most_rows = omega (arith, length-remove rows index (slice_get_within rows index old may.there), may.room.0) in (
        record { within = may.there; timeline = timeline_later kind (remove rows index) next may.room.1 middle },
        (
          record {
            within = cut_within;
            timeline = timeline_with kind (remove rows index) next (place_for target index (remove rows index)) (replacing target next old) middle may.room.1 (drawn_number target next old)
                (fits_without target rows next index old may.timeline.in_order may.there)
                (replayable_with kind (remove rows index) (place_for target index (remove rows index)) (replacing target next old) middle.replayable fewer cut_within
                (rw (drawn_number target next old) (next_is_fresh kind (remove rows index) next middle)) new_here valid);
          },
          tt,
        ),
      )

-- so it is of the step
pub shift_stands : (kind : Kind) (rows : List Row) (next : ℕ) (target : Target) (index : ℕ) (old : Row) → MayShift kind rows next target index old
    → IsValid kind (edited_by rows (shift_of rows target next index old)) → CanBeMadeInTurn kind (next + 1) rows (shift_of rows target next index old)
shift_stands kind rows next target index old may valid =
    elim (adds (replacing target next old).op) as (λ b. adds (replacing target next old).op ≡ b → CanBeMadeInTurn kind (next + 1) rows (shift_of rows target next index old)) [
      | true ↦ λ adding.
          let is : shift_of rows target next index old ≡ put_then_cut (place_for target index rows) (replacing target next old) index old = rw adding refl in
          subst (CanBeMadeInTurn kind (next + 1) rows) (sym is) (put_stands kind rows next target index old may adding (rw is at valid))
      | false ↦ λ taking.
          let is : shift_of rows target next index old ≡ cut_then_put index old (place_for target index (remove rows index)) (replacing target next old) = rw taking refl in
          subst (CanBeMadeInTurn kind (next + 1) rows) (sym is) (cut_stands kind rows next target index old may taking (rw is at valid))
    ] refl

-- what the edits of a replacement and the row that fails say of the step
pub edits_are_shift : (rows : List Row) (target : Target) (next index : ℕ) (old : Row) (r : Replacement) → TimesNeverFall rows
    → slice_get rows index ≡ Some old → r ≡ replacement_of rows target next index old → step_of_replacement r ≡ shift_of rows target next index old
edits_are_shift rows target next index old r never there is = ap step_of_replacement is ∙ replacement_is_shift rows target next index old never there

pub replaces_by : (kind : Kind) (rows : List Row) (next : ℕ) (target : Target) (index : ℕ) (old : Row) (r : Replacement) → MayShift kind rows next target index old
    → r ≡ replacement_of rows target next index old → Replaces kind rows r
replaces_by kind rows next target index old r may is = subst (Replaces kind rows) (sym is) (shift_replaces kind rows next target index old may)

pub names_failing : (kind : Kind) (rows : List Row) (next : ℕ) (target : Target) (index : ℕ) (old : Row) (r : Replacement) (failing : Option Row)
    → MayShift kind rows next target index old → r ≡ replacement_of rows target next index old → failing ≡ failing_row kind (replaced rows r)
    → failing ≡ failing_row kind (edited_by rows (shift_of rows target next index old))
names_failing kind rows next target index old r failing may is found =
    found ∙ ap (λ q. failing_row kind (replaced rows q)) is ∙ ap (failing_row kind) (sym (shift_is_replaced kind rows next target index old may))

pub none_failing : (kind : Kind) (rows : List Row) (next : ℕ) (target : Target) (index : ℕ) (old : Row) (r : Replacement) (failing : Option Row)
    → MayShift kind rows next target index old → r ≡ replacement_of rows target next index old → failing ≡ failing_row kind (replaced rows r) → failing ≡ None
    → IsValid kind (edited_by rows (shift_of rows target next index old))
none_failing kind rows next target index old r failing may is found none =
    none_fails kind (edited_by rows (shift_of rows target next index old)) (sym (names_failing kind rows next target index old r failing may is found) ∙ none)

-- the edits can be made in turn where no row fails
pub edits_stand : (kind : Kind) (rows : List Row) (next : ℕ) (target : Target) (index : ℕ) (old : Row) (r : Replacement) (failing : Option Row)
    → MayShift kind rows next target index old → r ≡ replacement_of rows target next index old → failing ≡ failing_row kind (replaced rows r) → failing ≡ None
    → CanBeMadeInTurn kind (next + 1) rows (step_of_replacement r)
edits_stand kind rows next target index old r failing may is found none =
    subst (CanBeMadeInTurn kind (next + 1) rows) (sym (edits_are_shift rows target next index old r may.timeline.in_order may.there is))
    (shift_stands kind rows next target index old may (none_failing kind rows next target index old r failing may is found none))

-- what is told of them is two turns
two_of_two : (turns : Turns) (one other : Edit) → step_reported turns ≡ one ∷ other ∷ [] → (first : Turn) × (second : Turn) × (turns ≡ Double first second)
two_of_two (Single turn) one other is = absurd (cc)
two_of_two (Double first second) one other is = (first, second, refl)

pub two_turns : (r : Replacement) (turns : Turns) → step_reported turns ≡ step_of_replacement r → (first : Turn) × (second : Turn) × (turns ≡ Double first second)
two_turns r turns is =
    elim (adds r.new.op) as (λ b. adds r.new.op ≡ b → (first : Turn) × (second : Turn) × (turns ≡ Double first second)) [
      | true ↦ λ e. two_of_two turns (add r.before r.new) (cut (index_after r.before r.index) r.old) (rw e at is)
      | false ↦ λ e. two_of_two turns (cut r.index r.old) (add (before_without r.index r.before) r.new) (rw e at is)
    ] refl

-- a row stands at the index
pub if_there : (P : Step → Type 0) (rows : List Row) (target : Target) (next index : ℕ) (old : Row) → slice_get rows index ≡ Some old
    → P (shift_of rows target next index old) → IfSome (shift_at rows target next index) P
if_there P rows target next index old there holds =
    subst (λ (o : Option Row). IfSome (option_map (shift_of rows target next index) o) P) (sym there) holds

-- why it is not replaced
abbrev pub seen : Kind → List Row → ℕ → Buffer Turns → Buffer Turns → Bool → SessionState
seen kind rows next undo redo spent =
    record { kind = kind; rows = rows; next = next; history = record { undo = steps_of undo.items; redo = undone_steps_of redo.items }; spent = spent }

pub unmade : (before after : SessionState) (target : Target) (place : ℕ) (old : Row) (error : EditError) → slice_get before.rows place ≡ Some old
    → IsStepCause before.kind before.rows (shift_of before.rows target before.next place old) error
    → IsLeftByShift before (shift_of before.rows target before.next place old) after error → IsShiftUnmade before place target after error
unmade before after target place old error there cause left =
    if_there (λ step. IsUnmade before step after error) before.rows target before.next place old there (cause, left)
