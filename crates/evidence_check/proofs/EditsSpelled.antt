-- The evidence of an accepted edit is in its ranges.
use Rattle.std.proofs.Common.{◌≡◌, ℕ, suc, ◌<◌, ◌≤◌, true, false, List, length, refl, subst, arith, Some, None}
use Rattle.std.specs.List.{AllByRecursion}
use Rattle.std.proofs.lemmas.Option.{slice_get_within}
use Rattle.retro_base.specs.declared.kind.Kind.TheVariants.{Pq}
use Rattle.retro_base.specs.declared.op.Op.{Op}
use Rattle.retro_base.specs.declared.op.Op.TheVariants.{Ins, DelMin}
use Rattle.retro_base.specs.declared.row.Change.{Change}
use Rattle.retro_base.specs.declared.row.Change.TheVariants.{Plain, Gain, Lose}
use Rattle.retro_base.specs.declared.row.Entry.{Entry}
use Rattle.retro_base.specs.declared.row.Row.{Row}
use Rattle.retro_base.specs.Bridges.{IsFound, IsStatedBridge, on_from, survives, survivors}
use Rattle.retro_base.specs.Carried.{IsPqEdit}
use Rattle.retro_base.specs.ChangeLaws.{OneChangeOfPq}
use Rattle.retro_base.specs.Changes.{IsPqChange, change_of}
use Rattle.retro_base.specs.Edits.{Edit, add, cut, edited, IsAccepted}
use Rattle.retro_base.specs.Kind.{kind_of}
use Rattle.retro_base.specs.Limits.{most_rows}
use Rattle.retro_base.specs.Name.{is_name}
use Rattle.retro_base.specs.OrderLaws.{all_weaker, all_with, all_without}
use Rattle.retro_base.specs.Timeline.{AreOfKind}
use Rattle.retro_base.specs.Weights.{added_as}
use Rattle.evidence.specs.Evidence.{IsEvidence, IsPqEntry, IsPqOp, IsRowNumber, IsStatedChange}
use Rattle.evidence_check.specs.Laws.{IsInRange, evidence_for, edit_row}
use Rattle.evidence_check.proofs.Possible.{of_pq}
use Rattle.evidence_check.proofs.Survivors.{Adds, all_survivors, of_joined}

added_in_range : (op : Op) (own : ℕ) → IsRowNumber own → IsPqOp op → (e : Entry) → added_as op own ≡ Some e → IsPqEntry e
added_in_range (Ins key) own number is e adds =
    let same : ◌≡◌ {A = Entry} (record { key = key; number = own }) e = cc in
    subst IsPqEntry same (is, number)
added_in_range DelMin own number is e adds = absurd (cc)
added_in_range op own number is e adds = absurd is

rows_add : (rows : List Row) → AllByRecursion IsInRange rows → AllByRecursion (Adds IsPqEntry) rows
rows_add rows ranges = all_weaker IsInRange (Adds IsPqEntry) rows (λ row range. added_in_range row.op row.number range.0 range.1) ranges

survivors_in_range : (rows : List Row) → AreOfKind Pq rows → AllByRecursion IsInRange rows → AllByRecursion IsPqEntry (survivors rows)
survivors_in_range rows kind ranges = all_survivors IsPqEntry rows kind (rows_add rows ranges)

-- the stated bridge is among the rows
add_within : (rows : List Row) (op : Op) (place number time bridge : ℕ) → place ≤ length rows → IsStatedBridge rows (add place (record { number = number; time = time; op = op })) (Some bridge)
    → bridge ≤ length rows
add_within rows (Ins key) place number time bridge within is = omega (arith, is.within)
add_within rows DelMin place number time bridge within is = is.within
add_within rows op place number time bridge within is = absurd is

cut_within : (rows : List Row) (op : Op) (place number time bridge : ℕ) → place < length rows → IsStatedBridge rows (cut place (record { number = number; time = time; op = op })) (Some bridge)
    → bridge ≤ length rows
cut_within rows (Ins key) place number time bridge within is =
    elim (survives rows (record { key = key; number = number })) as (λ b. survives rows (record { key = key; number = number }) ≡ b → bridge ≤ length rows) [
      | true ↦ λ lives. let none : ⊥ = rw lives at is in absurd none
      | false ↦ λ dead. let first : IsFound rows (on_from (suc place)) (Some bridge) = rw dead at is in first.within
    ] refl
cut_within rows DelMin place number time bridge within is = omega (arith, is.within)
cut_within rows op place number time bridge within is = absurd is

bridge_within : (rows : List Row) (edit : Edit) (bridge : ℕ) → IsPqEdit rows edit → IsStatedBridge rows edit (Some bridge) → bridge ≤ length rows
bridge_within rows (add place row) bridge possible is = add_within rows row.op place row.number row.time bridge possible.within is
bridge_within rows (cut place row) bridge possible is = cut_within rows row.op place row.number row.time bridge (slice_get_within rows place row possible.within) is

edited_in_range : (rows : List Row) (edit : Edit) → AllByRecursion IsInRange rows → IsInRange (edit_row edit) → AllByRecursion IsInRange (edited rows edit)
edited_in_range rows (add place row) ranges range = all_with IsInRange rows place row ranges range
edited_in_range rows (cut place row) ranges range = all_without IsInRange rows place ranges

in_range_kind : (rows : List Row) → AllByRecursion IsInRange rows → AreOfKind Pq rows
in_range_kind rows ranges = all_weaker IsInRange (λ row. kind_of row.op ≡ Pq) rows (λ row range. of_pq row.op range.1) ranges

change_in_range : (rows : List Row) (edit : Edit) (change : Change) → IsPqEdit rows edit → length rows ≤ most_rows → AllByRecursion IsInRange rows → IsInRange (edit_row edit)
    → IsPqChange rows edit change → IsStatedChange change
change_in_range rows edit Plain possible few ranges range is = absurd is
change_in_range rows edit (Gain bridge entry) possible few ranges range is =
    let new : AllByRecursion IsInRange (edited rows edit) = edited_in_range rows edit ranges range in (
      omega (arith, bridge_within rows edit bridge possible is.0),
      of_joined IsPqEntry entry (survivors rows) (rw is.1.joined at (survivors_in_range (edited rows edit) (in_range_kind (edited rows edit) new) new)),
    )
change_in_range rows edit (Lose None entry) possible few ranges range is = (
  tt,
  of_joined IsPqEntry entry (survivors (edited rows edit)) (rw is.1.joined at (survivors_in_range rows possible.history.of_kind ranges)),
)
change_in_range rows edit (Lose (Some bridge) entry) possible few ranges range is = (
  omega (arith, bridge_within rows edit bridge possible is.0),
  of_joined IsPqEntry entry (survivors (edited rows edit)) (rw is.1.joined at (survivors_in_range rows possible.history.of_kind ranges)),
)

in_ranges : (rows : List Row) (edit : Edit) (name : List ℕ) (change : Change) → IsPqEdit rows edit → length rows ≤ most_rows → is_name name ≡ true → IsInRange (edit_row edit)
    → IsStatedChange change → IsEvidence (evidence_for name edit change)
in_ranges rows (add place row) name change possible few named range stated = record {
  named = named;
  place = omega (arith, possible.within);
  number = range.0;
  op = range.1;
  change = stated;
}
in_ranges rows (cut place row) name change possible few named range stated = record {
  named = named;
  place = omega (arith, slice_get_within rows place row possible.within);
  number = range.0;
  op = range.1;
  change = stated;
}

pub edit_is_spelled : OneChangeOfPq → (rows : List Row) (edit : Edit) (name : List ℕ) → IsPqEdit rows edit → IsAccepted Pq rows edit → length rows ≤ most_rows → is_name name ≡ true
    → AllByRecursion IsInRange rows → IsInRange (edit_row edit) → IsEvidence (evidence_for name edit (change_of Pq rows edit))
edit_is_spelled one rows edit name possible accepted few named ranges range =
    in_ranges rows edit name (change_of Pq rows edit) possible few named range
    (change_in_range rows edit (change_of Pq rows edit) possible few ranges range ((one rows edit possible accepted).meets))
