-- Rows keep their marks after an edit.
use Rattle.std.proofs.Common.{◌≡◌, ℕ, Bool, true, false, ◌||◌, List, [], ◌∷◌, length, map, refl, sym, ap, ◌∙◌, arith, Option, Some, None}
use Rattle.std.specs.Option.{option_map_or}
use Rattle.std.specs.List.{AllByRecursion}
use Rattle.std.proofs.lemmas.Bool.{leb-false, ltb-false}
use Rattle.retro_base.specs.declared.kind.Kind.TheVariants.{Pq}
use Rattle.retro_base.specs.declared.op.Op.{Op}
use Rattle.retro_base.specs.declared.op.Op.TheVariants.{Ins, DelMin}
use Rattle.retro_base.specs.declared.row.Change.{Change}
use Rattle.retro_base.specs.declared.row.Change.TheVariants.{Plain, Gain, Lose}
use Rattle.retro_base.specs.declared.row.Entry.{Entry}
use Rattle.retro_base.specs.declared.row.Row.{Row}
use Rattle.retro_base.specs.Bridges.{is_among, same_entry, survivors}
use Rattle.retro_base.specs.Carried.{IsPqEdit}
use Rattle.retro_base.specs.ChangeLaws.{OneChangeOfPq}
use Rattle.retro_base.specs.Changes.{IsPqChange}
use Rattle.retro_base.specs.Edits.{IsAccepted, edited}
use Rattle.retro_base.specs.Limits.{most_rows}
use Rattle.retro_base.specs.OrderLaws.{all_with, all_without}
use Rattle.retro_base.specs.Replay.{fold_rows}
use Rattle.retro_base.specs.ReplayableLaws.{replayable_with, replayable_without}
use Rattle.retro_base.specs.State.{comes_before, with_entry}
use Rattle.retro_base.specs.Timeline.{AreOfKind, IsFresh, IsReplayable}
use Rattle.retro_base.specs.lemmas.bridges.Entries.{in_contains}
use Rattle.retro_base.specs.lemmas.bridges.EntryOrder.{same_entry-same, same_entry-refl}
use Rattle.retro_base.specs.lemmas.bridges.Tests.{not_among}
use Rattle.evidence.specs.declared.evidence.Evidence.{Evidence}
use Rattle.evidence.specs.Evidence.{IsEvidence, IsPqOp}
use Rattle.evidence_check.specs.declared.weighed_row.WeighedRow.{WeighedRow}
use Rattle.evidence_check.specs.Marks.{MarksSurvivors, IsMarked, adds, changed_marks, edited_rows, entry_of, weighed_row, unweighed, rows_of, with_mark}
use Rattle.evidence_check.specs.Truth.{cause_of, edit_with, is_full, is_outside, has_wrong_number, rows_after, reported_edit}
use Rattle.evidence_check.proofs.Accepted.{accepted_from}
use Rattle.evidence_check.proofs.Survivors.{fresh_entry}
use Rattle.evidence_check.proofs.Marking.{insert-map, length_rows, remove-map}
use Rattle.evidence_check.proofs.KeptNumbers.{swapped}
use Rattle.evidence_check.proofs.Possible.{is_fresh, of_pq, possible}

pub nothing_kept : MarksSurvivors []
unfolding fold_rows
nothing_kept = record {
  few = omega arith;
  replayable = record { few = omega arith; of_kind = tt; own_numbers = tt; valid = refl };
  marks = tt;
}

all_map : {X : Type 0} (P Q : X → Type 0) (f : X → X) (xs : List X) → ((x : X) → P x → Q (f x)) → AllByRecursion P xs → AllByRecursion Q (map f xs)
all_map P Q f [] each all = tt
all_map P Q f (x ∷ xs) each all = (each x all.0, all_map P Q f xs each all.1)

pub other_way : (a b : Entry) → same_entry a b ≡ false → same_entry b a ≡ false
other_way a b other = elim (same_entry b a) as (λ t. same_entry b a ≡ t → t ≡ false) [
  | true ↦ λ same. let wrong : true ≡ false = sym (same_entry-refl a) ∙ ap (same_entry a) (sym (same_entry-same b a same)) ∙ other in absurd (cc)
  | false ↦ λ differs. refl
] refl

-- among entries with one more
pub among_with : (x new : Entry) (held : List Entry) → is_among (with_entry new held) x ≡ (same_entry x new || is_among held x)
among_with x new [] = refl
among_with x new (first ∷ others) =
    elim (comes_before new first) as (λ b. comes_before new first ≡ b → is_among (with_entry new (first ∷ others)) x ≡ (same_entry x new || is_among (first ∷ others) x)) [
      | true ↦ λ before. rw before refl
      | false ↦ λ after. rw (after, among_with x new others) (swapped (same_entry x first) (same_entry x new) (is_among others x))
    ] refl

-- the mark of an entry, where one more survives: the one that came in, and another
module _ (entry : Entry) (fewer : List Entry) where
  more : List Entry
  more = with_entry entry fewer

  hit_more : (o : Option Entry) → option_map_or (same_entry entry) o false ≡ true → true ≡ option_map_or (is_among (with_entry entry fewer)) o false
  hit_more None hit = absurd (cc)
  hit_more (Some x) hit = sym (among_with x entry fewer ∙ rw (same_entry-same entry x hit, same_entry-refl x) refl)

  hit_fewer : is_among fewer entry ≡ false → (o : Option Entry) → option_map_or (same_entry entry) o false ≡ true → false ≡ option_map_or (is_among fewer) o false
  hit_fewer absent None hit = absurd (cc)
  hit_fewer absent (Some x) hit = sym (ap (is_among fewer) (sym (same_entry-same entry x hit)) ∙ absent)

  missed : (o : Option Entry) → option_map_or (same_entry entry) o false ≡ false → option_map_or (is_among fewer) o false ≡ option_map_or (is_among (with_entry entry fewer)) o false
  missed None miss = refl
  missed (Some x) miss = sym (among_with x entry fewer ∙ rw (other_way entry x miss) refl)

  -- the marks, where the entry is gained, and where it is lost
  pub mark_gained : (row : WeighedRow) → IsMarked fewer row → IsMarked (with_entry entry fewer) (with_mark entry true row)
  mark_gained row marks = elim (adds entry row) as (λ b. adds entry row ≡ b → IsMarked (with_entry entry fewer) (with_mark entry true row)) [
    | true ↦ λ hit. rw hit (hit_more (entry_of row) hit)
    | false ↦ λ miss. rw miss (marks ∙ missed (entry_of row) miss)
  ] refl

  pub mark_lost : is_among fewer entry ≡ false → (row : WeighedRow) → IsMarked (with_entry entry fewer) row → IsMarked fewer (with_mark entry false row)
  mark_lost absent row marks = elim (adds entry row) as (λ b. adds entry row ≡ b → IsMarked fewer (with_mark entry false row)) [
    | true ↦ λ hit. rw hit (hit_fewer absent (entry_of row) hit)
    | false ↦ λ miss. rw miss (marks ∙ sym (missed (entry_of row) miss))
  ] refl

-- marks change no row
row_marked : (entry : Entry) (alive : Bool) (row : WeighedRow) → unweighed (with_mark entry alive row) ≡ unweighed row
row_marked entry alive row = elim (adds entry row) as (λ b. adds entry row ≡ b → unweighed (with_mark entry alive row) ≡ unweighed row) [
  | true ↦ λ hit. rw hit refl
  | false ↦ λ miss. rw miss refl
] refl

pub rows_marked : (entry : Entry) (alive : Bool) (rows : List WeighedRow) → rows_of (map (with_mark entry alive) rows) ≡ rows_of rows
rows_marked entry alive [] = refl
rows_marked entry alive (row ∷ rows) = rw (row_marked entry alive row, rows_marked entry alive rows) refl

rows_changed : (change : Change) (rows : List WeighedRow) → rows_of (changed_marks change rows) ≡ rows_of rows
rows_changed Plain rows = refl
rows_changed (Gain bridge entry) rows = rows_marked entry true rows
rows_changed (Lose bridge entry) rows = rows_marked entry false rows

rows_edited : (added : Bool) (marked : List WeighedRow) (place : ℕ) (row : WeighedRow) → rows_of (edited_rows marked added place row) ≡ edited (rows_of marked) (edit_with added place (unweighed row))
rows_edited true marked place row = insert-map unweighed place marked row
rows_edited false marked place row = remove-map unweighed place marked

pub rows_reported : (marked : List WeighedRow) (e : Evidence) → rows_of (changed_marks e.change (edited_rows marked e.added e.place (weighed_row e))) ≡ rows_after (rows_of marked) e
rows_reported marked e = rows_changed e.change _ ∙ rows_edited e.added marked e.place (weighed_row e)

-- the new row, as long as it has no mark
unmarked : (rows : List Row) (number : ℕ) (op : Op) → IsPqOp op → AreOfKind Pq rows → IsFresh number rows
    → IsMarked (survivors rows) (record { number = number; op = op; alive = false })
unmarked rows number (Ins key) is kind fresh = sym (fresh_entry number rows (record { key = key; number = number }) kind fresh refl)
unmarked rows number DelMin is kind fresh = refl
unmarked rows number op is kind fresh = absurd is

marks_edited : (marked : List WeighedRow) → MarksSurvivors marked → (added : Bool) (place number : ℕ) (op : Op) → IsPqOp op → has_wrong_number added number place (rows_of marked) ≡ false
    → AllByRecursion (IsMarked (survivors (rows_of marked))) (edited_rows marked added place (record { number = number; op = op; alive = false }))
marks_edited marked kept true place number op is own =
    all_with (IsMarked (survivors (rows_of marked))) marked place (record { number = number; op = op; alive = false }) kept.marks
    (unmarked (rows_of marked) number op is kept.replayable.of_kind (is_fresh number (rows_of marked) own))
marks_edited marked kept false place number op is own = all_without (IsMarked (survivors (rows_of marked))) marked place kept.marks

marks_changed : (change : Change) (rows : List Row) (e : Evidence) (marked : List WeighedRow) → IsPqChange rows (reported_edit e) change → AllByRecursion (IsMarked (survivors rows)) marked
    → AllByRecursion (IsMarked (survivors (rows_after rows e))) (changed_marks change marked)
marks_changed Plain rows e marked is marks = absurd is
marks_changed (Gain bridge entry) rows e marked is marks =
    rw is.1.joined (all_map (IsMarked (survivors rows)) (IsMarked (with_entry entry (survivors rows))) (with_mark entry true) marked (mark_gained entry (survivors rows)) marks)
marks_changed (Lose bridge entry) rows e marked is marks =
    all_map (IsMarked (with_entry entry (survivors (rows_after rows e)))) (IsMarked (survivors (rows_after rows e))) (with_mark entry false) marked
    (mark_lost entry (survivors (rows_after rows e)) (not_among entry (survivors (rows_after rows e)) (λ inside. is.1.absent (in_contains (survivors (rows_after rows e)) entry inside)))) (rw is.1.joined at marks)

replayable_after : (rows : List Row) → IsReplayable Pq rows → (added : Bool) (place number : ℕ) (op : Op) → IsPqOp op → is_full added rows ≡ false → is_outside added place rows ≡ false
    → has_wrong_number added number place rows ≡ false → IsAccepted Pq rows (edit_with added place (record { number = number; time = 0; op = op }))
    → IsReplayable Pq (edited rows (edit_with added place (record { number = number; time = 0; op = op })))
replayable_after rows replayable true place number op is room inside own valid =
    replayable_with Pq rows place (record { number = number; time = 0; op = op }) replayable (leb-false most_rows (length rows) room) (ltb-false (length rows) place inside)
    (is_fresh number rows own) (of_pq op is) valid
replayable_after rows replayable false place number op is room inside own valid = replayable_without Pq rows place replayable valid

-- after evidence that is accepted
pub kept_after : OneChangeOfPq → (marked : List WeighedRow) (e : Evidence) → MarksSurvivors marked → IsEvidence e → cause_of (rows_of marked) e ≡ None
    → MarksSurvivors (changed_marks e.change (edited_rows marked e.added e.place (weighed_row e)))
kept_after one marked e kept is none =
    let accepted = accepted_from (rows_of marked) e none in
    let edit : IsPqEdit (rows_of marked) (reported_edit e) = possible marked kept e.added e.place e.number e.op is.op accepted.inside accepted.number accepted.op in
    let meets : IsPqChange (rows_of marked) (reported_edit e) e.change = rw accepted.change ((one (rows_of marked) (reported_edit e) edit accepted.replays).meets) in
    let after : List WeighedRow = changed_marks e.change (edited_rows marked e.added e.place (weighed_row e)) in
    let same : rows_of after ≡ rows_after (rows_of marked) e = rows_reported marked e in
    let replays : IsReplayable Pq (rows_of after) =
    rw same (replayable_after (rows_of marked) kept.replayable e.added e.place e.number e.op is.op accepted.room accepted.inside accepted.number accepted.replays) in
    record {
      few = omega (arith, length_rows after, replays.few);
      replayable = replays;
      marks = rw same (marks_changed e.change (rows_of marked) e _ meets (marks_edited marked kept e.added e.place e.number e.op is.op accepted.number));
    }
