-- Evidence against which no test holds tells of an edit that can be made.
use Rattle.std.proofs.Common.{◌≡◌, ℕ, Bool, true, false, not, List, [], ◌∷◌, length, refl, sym, ap, ◌∙◌, Option, Some, None}
use Rattle.std.specs.Prelude.{◌==◌, slice_get}
use Rattle.std.specs.Option.{option_map_or}
use Rattle.std.specs.List.{AllByRecursion}
use Rattle.std.proofs.lemmas.Bool.{ltb-false}
use Rattle.std.proofs.lemmas.Bool.Decides.{Decides-int_eq, Decides-eqb}
use Rattle.retro_base.specs.declared.kind.Kind.TheVariants.{Pq}
use Rattle.retro_base.specs.declared.op.Op.{Op}
use Rattle.retro_base.specs.declared.op.Op.TheVariants.{Ins, DelMin}
use Rattle.retro_base.specs.declared.row.Row.{Row}
use Rattle.retro_base.specs.Carried.{IsPqEdit, IsPqHistory}
use Rattle.retro_base.specs.Kind.{kind_of}
use Rattle.retro_base.specs.Timeline.{IsFresh}
use Rattle.retro_base.specs.OrderLaws.{all_at}
use Rattle.evidence.specs.Evidence.{IsPqOp}
use Rattle.evidence_check.specs.declared.weighed_row.WeighedRow.{WeighedRow}
use Rattle.evidence_check.specs.Marks.{MarksSurvivors, rows_of}
use Rattle.evidence_check.specs.Truth.{edit_with, fails_at, has_number, has_wrong_number, has_wrong_op, is_outside, same_op}
use Rattle.evidence_check.proofs.Weighing.{history}
use Rattle.retro_base.specs.Facts.{one_value}
use Rattle.retro_base.specs.Facts.{either_false}

pub of_pq : (op : Op) → IsPqOp op → kind_of op ≡ Pq
of_pq (Ins key) is = refl
of_pq DelMin is = refl
of_pq op is = absurd is

pub is_fresh : (number : ℕ) (rows : List Row) → has_number number rows ≡ false → IsFresh number rows
is_fresh number [] none = tt
is_fresh number (first ∷ others) none =
    let parts = either_false (first.number == number) (has_number number others) none in
    (λ same. let wrong : true ≡ false = sym ((Decides-eqb first.number number).1 same) ∙ parts.0 in absurd (cc), is_fresh number others parts.1)

-- the test does not fail of the row that stands there
pub holds_at : (test : Row → Bool) (o : Option Row) → option_map_or (λ row. not (test row)) o true ≡ false → (row : Row) × (o ≡ Some row) × (test row ≡ true)
holds_at test None fails = absurd (cc)
holds_at test (Some row) fails = (row, refl, not_false (test row) fails)
  where
    not_false : (b : Bool) → not b ≡ false → b ≡ true
    not_false true h = refl
    not_false false h = absurd (cc)

same_op_is : (op other : Op) → IsPqOp other → same_op op other ≡ true → op ≡ other
same_op_is (Ins key) (Ins other) is same = ap (λ k. Ins k) ((Decides-int_eq key other).0 same)
same_op_is DelMin DelMin is same = refl
same_op_is op other is same = absurd (cc)

row_of_parts : (number own time : ℕ) (op done : Op) → own ≡ number → time ≡ 0 → done ≡ op
    → ◌≡◌ {A = Row} (record { number = own; time = time; op = done }) (record { number = number; time = 0; op = op })
row_of_parts number own time op done number_is time_is op_is = rw (number_is, time_is, op_is) refl

cut_row : (rows : List Row) (place number : ℕ) (op : Op) → AllByRecursion (λ row. row.time ≡ 0) rows → IsPqOp op → fails_at (λ row. row.number == number) place rows ≡ false
    → fails_at (λ row. same_op row.op op) place rows ≡ false → slice_get rows place ≡ Some (record { number = number; time = 0; op = op })
cut_row rows place number op timeless is right_number right_op =
    let by_number = holds_at (λ r. r.number == number) (slice_get rows place) right_number in
    let by_op = holds_at (λ r. same_op r.op op) (slice_get rows place) right_op in
    let row : Row = by_number.0 in
    let one : by_op.0 ≡ row = one_value _ _ _ by_op.1 by_number.1 in
    let number_is : row.number ≡ number = (Decides-eqb row.number number).0 by_number.2 in
    let time_is : row.time ≡ 0 = all_at (λ r. r.time ≡ 0) rows place row timeless by_number.1 in
    let op_is : row.op ≡ op = same_op_is row.op op is (ap (λ r. same_op r.op op) (sym one) ∙ by_op.2) in
    by_number.1 ∙ ap Some (row_of_parts number row.number row.time op row.op number_is time_is op_is)

pub possible_in : (rows : List Row) → IsPqHistory rows → AllByRecursion (λ row. row.time ≡ 0) rows → (added : Bool) (place number : ℕ) (op : Op) → IsPqOp op
    → is_outside added place rows ≡ false → has_wrong_number added number place rows ≡ false → has_wrong_op added op place rows ≡ false
    → IsPqEdit rows (edit_with added place (record { number = number; time = 0; op = op }))
possible_in rows reported timeless true place number op is inside right_number right_op = record {
  history = reported;
  within = ltb-false (length rows) place inside;
  own_row = (of_pq op is, is_fresh number rows right_number);
}
possible_in rows reported timeless false place number op is inside right_number right_op = record {
  history = reported;
  within = cut_row rows place number op timeless is right_number right_op;
  own_row = tt;
}

marked_timeless : (marked : List WeighedRow) → AllByRecursion (λ row. row.time ≡ 0) (rows_of marked)
marked_timeless [] = tt
marked_timeless (first ∷ others) = (refl, marked_timeless others)

pub possible : (marked : List WeighedRow) → MarksSurvivors marked → (added : Bool) (place number : ℕ) (op : Op) → IsPqOp op
    → is_outside added place (rows_of marked) ≡ false → has_wrong_number added number place (rows_of marked) ≡ false → has_wrong_op added op place (rows_of marked) ≡ false
    → IsPqEdit (rows_of marked) (edit_with added place (record { number = number; time = 0; op = op }))
possible marked kept added place number op is inside right_number right_op =
    possible_in (rows_of marked) (history marked kept) (marked_timeless marked) added place number op is inside right_number right_op
