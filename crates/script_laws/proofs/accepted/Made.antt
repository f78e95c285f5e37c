-- Edits that are made one after another, each in rows that replay and are in range, and each leading to such rows.
use Rattle.std.proofs.Common.{◌≡◌, ℕ, suc, ◌<◌, ◌≤◌, List, [], ◌∷◌, ◌++◌, length, ℤ, sym, ap, ◌∙◌, subst, arith, append_assoc, append-nil, length-append, ◌≢◌, ◌+◌, true}
use Rattle.std.proofs.Common.{false, slice_get, Some, refl}
use Rattle.std.specs.List.{AllByRecursion, insert, remove}
use Rattle.std.proofs.lemmas.List.Edits.{insert_end, length-insert, length-remove}
use Rattle.std.proofs.Math.Seq.{take-append_seam}
use Rattle.retro_base.specs.declared.kind.Kind.{Kind}
use Rattle.retro_base.specs.declared.kind.Kind.TheVariants.{Pq}
use Rattle.retro_base.specs.declared.op.Op.{Op}
use Rattle.retro_base.specs.declared.row.Row.{Row}
use Rattle.retro_base.specs.Carried.{IsPqEdit}
use Rattle.retro_base.specs.EditedLists.{can_go_back, there_and_back, remove-insert}
use Rattle.retro_base.specs.Edits.{Edit, Step, add, cut, edited, edited_by, inverse, inverse_step, IsAccepted, IsWithin}
use Rattle.retro_base.specs.Kind.{kind_of, adds}
use Rattle.retro_base.specs.Limits.{most_rows, next_limit}
use Rattle.retro_base.specs.MadeEdits.{all_inserted, adds_own_row}
use Rattle.retro_base.specs.OrderLaws.{all_at, all_weaker, all_with, all_without}
use Rattle.retro_base.specs.Timeline.{AreOfKind, IsReplayable, IsFresh}
use Rattle.retro_base.specs.lemmas.FirstRows.{replayable_first}
use Rattle.retro_base.specs.lemmas.Replayable.{all_before}
use Rattle.evidence.specs.Evidence.{IsPqOp, IsRowNumber, IsValue}
use Rattle.evidence_check.specs.Laws.{HasRoom, IsInRange, edit_row}
use Rattle.script_grammar.specs.SpellingLaws as grammar
use Rattle.reactions.specs.Reported.{appends_from}
use Rattle.script_laws.proofs.accepted.Leads.{Leads, leads_back, leads_so}
use Rattle.retro_base.specs.Replay.{IsValid}
use Rattle.retro_base.specs.ReplayableLaws.{replayable_with, replayable_without}
use Rattle.retro_base.specs.lemmas.GivingEdits.{adding_row_replays, taking_row_can_go}
use Rattle.script_grammar.specs.SpellingLaws.{HasValues}
use Rattle.timeline_undo.specs.Back.{CanBeMade, ShiftsCanBeMade}
use Rattle.retro_base.specs.Shift.{IsTargetOf, index_after, place_for, replacing, put_then_cut, cut_then_put, shift_of}
use Rattle.retro_base.specs.declared.target.Target.{Target}
use Rattle.retro_base.specs.declared.target.Target.TheVariants.{At, Into}
use Rattle.std.proofs.lemmas.Option.{slice_get_within}

-- a row with values of 64 bits and a number that a row can have, below the next one
abbrev pub IsRanged : ℕ → Row → Type 0
IsRanged next row = (row.number < next) × IsRowNumber row.number × grammar.HasValues row.op

pub record IsSound (kind : Kind) (next : ℕ) (rows : List Row) : Type 0 where
  pub replayable : IsReplayable kind rows
  pub ranged : AllByRecursion (IsRanged next) rows

-- the edit can be made in sound rows, and leads to these, which are sound
pub record Makes (kind : Kind) (next : ℕ) (rows : List Row) (edit : Edit) (after : List Row) : Type 0 where
  pub before : IsSound kind next rows
  pub within : IsWithin rows edit
  pub leads : edited rows edit ≡ after
  pub later : IsSound kind next after

-- a step that is made, and one that was taken back
abbrev pub MakesStep : Kind → ℕ → List Row → Step → List Row → Type 0
MakesStep kind next from step to = Leads (Makes kind next) from step to

abbrev pub TakesBack : Kind → ℕ → List Row → Step → List Row → Type 0
TakesBack kind next from step to = MakesStep kind next to step from

-- where a greater number comes next
module _ (kind : Kind) (next later : ℕ) (more : next ≤ later) where
  pub sound_later : (rows : List Row) → IsSound kind next rows → IsSound kind later rows
  sound_later rows sound = record {
    replayable = sound.replayable;
    ranged = all_weaker (IsRanged next) (IsRanged later) rows (λ row range. (omega (arith, range.0, more), range.1, range.2)) sound.ranged;
  }

  makes_later : (from to : List Row) (edit : Edit) → Makes kind next from edit to → Makes kind later from edit to
  makes_later from to edit made = record {
    before = sound_later from made.before;
    within = made.within;
    leads = made.leads;
    later = sound_later to made.later;
  }

  pub step_later : (from to : List Row) (step : Step) → MakesStep kind next from step to → MakesStep kind later from step to
  step_later from to step made = leads_so (Makes kind next) (Makes kind later) makes_later step from to made

-- An edit that was made can be taken back.
makes_back : (kind : Kind) (next : ℕ) (from to : List Row) (edit : Edit) → Makes kind next from edit to → Makes kind next to (inverse edit) from
makes_back kind next from to edit made = record {
  before = made.later;
  within = subst (λ rows. IsWithin rows (inverse edit)) made.leads (can_go_back from edit made.within);
  leads = subst (λ rows. edited rows (inverse edit) ≡ from) made.leads (there_and_back from edit made.within);
  later = made.before;
}

pub step_back : (kind : Kind) (next : ℕ) (from to : List Row) (step : Step) → MakesStep kind next from step to → MakesStep kind next to (inverse_step step) from
step_back kind next from to step made = leads_back (Makes kind next) inverse (λ a b edit one. makes_back kind next a b edit one) step from to made

-- a step leads to the edited rows, which are sound where those before it are
pub leads_to : (kind : Kind) (next : ℕ) (step : Step) (from to : List Row) → MakesStep kind next from step to → edited_by from step ≡ to
leads_to kind next [] from to made = made
leads_to kind next (edit ∷ step) from to made =
    ap (λ rows. edited_by rows step) made.1.leads ∙ leads_to kind next step made.0 to made.2

pub sound_after : (kind : Kind) (next : ℕ) (step : Step) (from to : List Row) → MakesStep kind next from step to → IsSound kind next from → IsSound kind next to
sound_after kind next [] from to made sound = subst (IsSound kind next) made sound
sound_after kind next (edit ∷ step) from to made sound = sound_after kind next step made.0 to made.2 made.1.later

-- An edit of a priority queue that is made can be told.
value_in_range : (v : ℤ) → grammar.IsValue v → IsValue v
value_in_range v is = grind arith

pq_in_range : (op : Op) → kind_of op ≡ Pq → grammar.HasValues op → IsPqOp op
pq_in_range op kind values = grind arith

in_range : (next : ℕ) (row : Row) → kind_of row.op ≡ Pq → IsRanged next row → IsInRange row
in_range next row kind range = (range.1, pq_in_range row.op kind range.2)

pub all_in_range : (next : ℕ) (rows : List Row) → AreOfKind Pq rows → AllByRecursion (IsRanged next) rows → AllByRecursion IsInRange rows
all_in_range next [] kind ranged = tt
all_in_range next (row ∷ rows) kind ranged = (in_range next row kind.0 ranged.0, all_in_range next rows kind.1 ranged.1)

row_in_range : (next : ℕ) (rows : List Row) (edit : Edit) → IsSound Pq next rows → IsWithin rows edit → IsSound Pq next (edited rows edit) → IsInRange (edit_row edit)
row_in_range next rows (add place row) before within after =
    in_range next row (all_inserted (λ r. kind_of r.op ≡ Pq) rows place row after.replayable.of_kind) (all_inserted (IsRanged next) rows place row after.ranged)
row_in_range next rows (cut place row) before within after =
    in_range next row (all_at (λ r. kind_of r.op ≡ Pq) rows place row before.replayable.of_kind within) (all_at (IsRanged next) rows place row before.ranged within)

room_for : (rows : List Row) (edit : Edit) → IsWithin rows edit → length (edited rows edit) ≤ most_rows → HasRoom rows edit
room_for rows edit within few = grind (arith, length-insert)

-- all that the laws of evidence ask for
pub record CanBeReported (rows : List Row) (edit : Edit) : Type 0 where
  pub possible : IsPqEdit rows edit
  pub accepted : IsAccepted Pq rows edit
  pub room : HasRoom rows edit
  pub few : length rows ≤ most_rows
  pub rows_range : AllByRecursion IsInRange rows
  pub row_range : IsInRange (edit_row edit)

pub can_be_reported : (next : ℕ) (rows after : List Row) (edit : Edit) → Makes Pq next rows edit after → CanBeReported rows edit
can_be_reported next rows after edit made =
    let later : IsSound Pq next (edited rows edit) = subst (IsSound Pq next) (sym made.leads) made.later in
    record {
      possible = record {
        history = record { of_kind = made.before.replayable.of_kind; own_numbers = made.before.replayable.own_numbers; valid = made.before.replayable.valid };
        within = made.within;
        own_row = adds_own_row rows edit later.replayable;
      };
      accepted = later.replayable.valid;
      room = room_for rows edit made.within later.replayable.few;
      few = made.before.replayable.few;
      rows_range = all_in_range next rows made.before.replayable.of_kind made.before.ranged;
      row_range = row_in_range next rows edit made.before made.within later;
    }

-- The first of sound rows are sound, so rows can be put in one after another.
sound_front : (kind : Kind) (next : ℕ) (front back : List Row) → IsSound kind next (front ++ back) → IsSound kind next front
sound_front kind next front back sound =
    subst (IsSound kind next) (take-append_seam front back) (record {
      replayable = replayable_first kind (front ++ back) (length front) sound.replayable;
      ranged = all_before (IsRanged next) (front ++ back) (length front) sound.ranged;
    })

pub appends_made : (kind : Kind) (next : ℕ) (before more : List Row) → IsSound kind next (before ++ more)
    → MakesStep kind next before (appends_from (length before) more) (before ++ more)
unfolding appends_from
appends_made kind next before [] sound = sym (append-nil before)
appends_made kind next before (row ∷ more) sound =
    let longer : length (before ++ row ∷ []) ≡ suc (length before) = omega (arith, length-append before (row ∷ [])) in
    let same : (before ++ row ∷ []) ++ more ≡ before ++ row ∷ more = append_assoc before (row ∷ []) more in
    let rest : MakesStep kind next (before ++ row ∷ []) (appends_from (length (before ++ row ∷ [])) more) ((before ++ row ∷ []) ++ more) =
    appends_made kind next (before ++ row ∷ []) more (subst (IsSound kind next) (sym same) sound) in (
      before ++ row ∷ [],
      record {
        before = sound_front kind next before (row ∷ more) sound;
        within = omega arith;
        leads = insert_end before row;
        later = sound_front kind next (before ++ row ∷ []) more (subst (IsSound kind next) (sym same) sound);
      },
      subst (λ n. MakesStep kind next (before ++ row ∷ []) (appends_from n more) (before ++ row ∷ more)) longer
          (subst (MakesStep kind next (before ++ row ∷ []) (appends_from (length (before ++ row ∷ [])) more)) same rest),
    )

-- what a row becomes has values of 64 bits
abbrev pub HasTarget : Target → Type 0
HasTarget (At time) = Unit {0}
HasTarget (Into op) = HasValues op

-- a row of sound rows may be replaced
pub record MayReplace (kind : Kind) (rows : List Row) (next : ℕ) (target : Target) (index : ℕ) (old : Row) : Type 0 where
  pub sound : IsSound kind next rows
  pub least : 1 ≤ next
  pub room : length rows < most_rows
  pub below : next < next_limit
  pub of_kind : IsTargetOf kind target
  pub values : HasTarget target
  pub there : slice_get rows index ≡ Some old

drawn_number : (target : Target) (number : ℕ) (old : Row) → (replacing target number old).number ≡ number
drawn_number target number old = grind arith

new_of_kind : (kind : Kind) (target : Target) (number : ℕ) (old : Row) → kind_of old.op ≡ kind → IsTargetOf kind target → kind_of (replacing target number old).op ≡ kind
new_of_kind kind target number old was here = grind arith

new_values : (target : Target) (number : ℕ) (old : Row) → HasValues old.op → HasTarget target → HasValues (replacing target number old).op
new_values (At time) number old had has = had
new_values (Into op) number old had has = has

-- no row of sound rows has the next number
pub next_fresh : (kind : Kind) (rows : List Row) (next : ℕ) → IsSound kind next rows → IsFresh next rows
next_fresh kind rows next sound = all_weaker (IsRanged next) (λ r. r.number ≢ next) rows (λ r range same. omega (arith, range.0, same)) sound.ranged

-- a row with the next number comes into sound rows, and a row goes out of them
pub comes : (kind : Kind) (rows : List Row) (next place : ℕ) (new : Row) → IsSound kind (next + 1) rows → IsFresh next rows → 1 ≤ next → next < next_limit → length rows < most_rows
    → new.number ≡ next → kind_of new.op ≡ kind → HasValues new.op → place ≤ length rows → IsValid kind (insert rows place new)
    → Makes kind (next + 1) rows (add place new) (insert rows place new)
comes kind rows next place new sound fresh least below room drawn here values within valid = record {
  before = sound;
  within = within;
  leads = refl;
  later = record {
    replayable = replayable_with kind rows place new sound.replayable room within (subst (λ n. IsFresh n rows) (sym drawn) fresh) here valid;
    ranged = all_with (IsRanged (next + 1)) rows place new sound.ranged (omega (arith, drawn), (omega (arith, drawn, least), omega (arith, drawn, below)), values);
  };
}

pub goes : (kind : Kind) (rows : List Row) (next index : ℕ) (old : Row) → IsSound kind next rows → slice_get rows index ≡ Some old → IsValid kind (remove rows index)
    → Makes kind next rows (cut index old) (remove rows index)
goes kind rows next index old sound there valid = record {
  before = sound;
  within = there;
  leads = refl;
  later = record {
    replayable = replayable_without kind rows index sound.replayable valid;
    ranged = all_without (IsRanged next) rows index sound.ranged;
  };
}

module _ (shifts : ShiftsCanBeMade) (kind : Kind) (rows : List Row) (next : ℕ) (target : Target) (index : ℕ) (old : Row) (may : MayReplace kind rows next target index old) where
  here : kind_of (replacing target next old).op ≡ kind
  here = new_of_kind kind target next old (all_at (λ (r : Row). kind_of r.op ≡ kind) rows index old may.sound.replayable.of_kind may.there) may.of_kind

  values : HasValues (replacing target next old).op
  values = new_values target next old (all_at (IsRanged next) rows index old may.sound.ranged may.there).2 may.values

  fresh : IsFresh next rows
  fresh = next_fresh kind rows next may.sound

  lifted : IsSound kind (next + 1) rows
  lifted = sound_later kind next (next + 1) (omega arith) rows may.sound

  put_made : adds (replacing target next old).op ≡ true → CanBeMade rows (put_then_cut (place_for target index rows) (replacing target next old) index old)
      → IsValid kind (edited_by rows (put_then_cut (place_for target index rows) (replacing target next old) index old))
      → MakesStep kind (next + 1) rows (put_then_cut (place_for target index rows) (replacing target next old) index old)
      (edited_by rows (put_then_cut (place_for target index rows) (replacing target next old) index old))
  put_made adding within valid =
      let put = place_for target index rows in
      let new : Row = replacing target next old in
      let middle : List Row = insert rows put new in
      let first : Makes kind (next + 1) rows (add put new) middle =
      comes kind rows next put new lifted fresh may.least may.below may.room (drawn_number target next old) here values within.0
      (adding_row_replays kind rows put new may.sound.replayable.of_kind may.sound.replayable.valid here adding) in
      (middle, first, (remove middle (index_after put index), goes kind middle (next + 1) (index_after put index) old first.later within.1.0 valid, refl))

  cut_made : adds (replacing target next old).op ≡ false → CanBeMade rows (cut_then_put index old (place_for target index (remove rows index)) (replacing target next old))
      → IsValid kind (edited_by rows (cut_then_put index old (place_for target index (remove rows index)) (replacing target next old)))
      → MakesStep kind (next + 1) rows (cut_then_put index old (place_for target index (remove rows index)) (replacing target next old))
      (edited_by rows (cut_then_put index old (place_for target index (remove rows index)) (replacing target next old)))
  cut_made taking within valid =
      let middle : List Row = remove rows index in
      let put = place_for target index middle in
      let new : Row = replacing target next old in
      let all = all_with (λ (r : Row). kind_of r.op ≡ kind) middle put new (all_without (λ (r : Row). kind_of r.op ≡ kind) rows index may.sound.replayable.of_kind) here in
      let middle_valid : IsValid kind middle =
      subst (IsValid kind) (remove-insert middle put new within.1.0)
      (taking_row_can_go kind (insert middle put new) put new all valid (can_go_back middle (add put new) within.1.0) taking) in
      let first : Makes kind (next + 1) rows (cut index old) middle = goes kind rows (next + 1) index old lifted may.there middle_valid in
      let fewer : length middle < most_rows = omega (arith, length-remove rows index (slice_get_within rows index old may.there), may.room) in (
        middle,
        first,
        (
          insert middle put new,
          comes kind middle next put new first.later (all_without (λ (r : Row). r.number ≢ next) rows index fresh) may.least may.below fewer
              (drawn_number target next old) here values within.1.0 valid,
          refl,
        ),
      )

  pub shift_made : IsValid kind (edited_by rows (shift_of rows target next index old))
      → MakesStep kind (next + 1) rows (shift_of rows target next index old) (edited_by rows (shift_of rows target next index old))
  shift_made valid =
      elim (adds (replacing target next old).op) as (λ b. adds (replacing target next old).op ≡ b
      → MakesStep kind (next + 1) rows (shift_of rows target next index old) (edited_by rows (shift_of rows target next index old))) [
        | true ↦ λ adding.
            let is : shift_of rows target next index old ≡ put_then_cut (place_for target index rows) (replacing target next old) index old = rw adding refl in
            subst (λ step. MakesStep kind (next + 1) rows step (edited_by rows step)) (sym is)
            (put_made adding (subst (CanBeMade rows) is (shifts rows target next index old may.there)) (subst (λ step. IsValid kind (edited_by rows step)) is valid))
        | false ↦ λ taking.
            let is : shift_of rows target next index old ≡ cut_then_put index old (place_for target index (remove rows index)) (replacing target next old) = rw taking refl in
            subst (λ step. MakesStep kind (next + 1) rows step (edited_by rows step)) (sym is)
            (cut_made taking (subst (CanBeMade rows) is (shifts rows target next index old may.there)) (subst (λ step. IsValid kind (edited_by rows step)) is valid))
      ] refl
