-- What an insertion makes of the labels.
use Rattle.std.proofs.Common.{ap, ◌≡◌, ℕ, zero, suc, ◌+◌, ◌-◌, ◌*◌, ◌<◌, ◌≤◌, true, false, Some, Ok, Err, Result, OnOk, OnErr, List, [], ◌∷◌, length, slice_get, refl, sym, subst, arith, inl, inr}
use Rattle.std.proofs.lemmas.Bool.{cases_Bool, leb-true, leb-false}
use Rattle.std.specs.List.{insert, remove}
use Rattle.std.proofs.lemmas.List.Edits.{length-insert, length-remove}
use Rattle.retro_base.specs.Limits.{most_rows}
use Rattle.order_labels.specs.Labels.{AreApart, AreLabels, label_limit, label_before, label_after, has_room, middle, gap_of, spread, inserted}
use Rattle.order_labels.specs.ApartLaws.{gap_at, apart_with, apart_without, less_apart, middle_apart}
use Rattle.order_labels.specs.SpreadLaws.{spread-rises, length-multiples}

room : (labels : List ℕ) (place : ℕ) → has_room labels place ≡ true → 2 ≤ label_after label_limit labels place - label_before 0 labels place
room labels place is = leb-true 2 (label_after label_limit labels place - label_before 0 labels place) is

pub no_room : (labels : List ℕ) (place : ℕ) → has_room labels place ≡ false → label_after label_limit labels place - label_before 0 labels place < 2
no_room labels place is = leb-false 2 (label_after label_limit labels place - label_before 0 labels place) is

-- the middle halves the distance at most
pub halved : (distance : ℕ) (labels : List ℕ) (place : ℕ) → place ≤ length labels → AreApart (2 * distance) 0 label_limit labels → AreApart distance 0 label_limit (insert labels place (middle labels place))
halved distance labels place within apart =
    let beside = middle_apart distance (label_before 0 labels place) (label_after label_limit labels place) (gap_at (2 * distance) 0 label_limit labels place within apart) in
    apart_with distance 0 label_limit labels place (middle labels place) within (less_apart (2 * distance) distance 0 label_limit labels (omega arith) apart) beside.0 beside.1

-- where there is room
pub rising_with : (labels : List ℕ) (place : ℕ) → place ≤ length labels → AreApart 1 0 label_limit labels → has_room labels place ≡ true → AreApart 1 0 label_limit (insert labels place (middle labels place))
rising_with labels place within apart is =
    let beside = middle_apart 1 (label_before 0 labels place) (label_after label_limit labels place) (omega (arith, room labels place is)) in
    apart_with 1 0 label_limit labels place (middle labels place) within apart beside.0 beside.1

pub labels_with : (labels : List ℕ) (place : ℕ) → place ≤ length labels → length labels < most_rows → AreLabels labels → AreLabels (inserted labels place)
labels_with labels place within few are = elim (cases_Bool (has_room labels place)) [
  | inl is ↦ rw is (record {
    few = omega (arith, length-insert labels place (middle labels place) within);
    rising = rising_with labels place within are.rising is;
  })
  | inr not ↦ rw not (record {
    few = omega (arith, length-multiples (gap_of (length labels + 1)) (length labels + 1));
    rising = spread-rises (length labels + 1) (omega arith);
  })
]

-- a label of another's choice, between those beside its place
pub labels_labelled : (labels : List ℕ) (place label : ℕ) → place ≤ length labels → length labels < most_rows → label_before 0 labels place < label → label < label_after label_limit labels place → AreLabels labels
    → AreLabels (insert labels place label)
labels_labelled labels place label within few above below are = record {
  few = omega (arith, length-insert labels place label within);
  rising = apart_with 1 0 label_limit labels place label within are.rising (omega arith) (omega arith);
}

pub labels_without : (labels : List ℕ) (place : ℕ) → place < length labels → AreLabels labels → AreLabels (remove labels place)
labels_without labels place within are = record {
  few = omega (arith, length-remove labels place within, are.few);
  rising = apart_without 1 0 label_limit labels place within are.rising;
}

-- what was put in at a place is read there
pub read_back : (labels : List ℕ) (place label : ℕ) → place ≤ length labels → slice_get (insert labels place label) place ≡ Some label
read_back [] zero label within = refl
read_back [] (suc place) label within = absurd (omega arith)
read_back (next ∷ labels) zero label within = refl
read_back (next ∷ labels) (suc place) label within = read_back labels place label (omega arith)

-- whatever the answer of an insertion is
pub labels_kept : {X E : Type 0} (labels next after : List ℕ) (result : Result X E) → AreLabels labels → AreLabels next → OnOk result (after ≡ next) → OnErr result (after ≡ labels) → AreLabels after
labels_kept labels next after (Ok x) are will ok err = subst AreLabels (sym ok) will
labels_kept labels next after (Err e) are will ok err = subst AreLabels (sym err) are

-- all rows are spread once one more is there
pub length-with : (labels more : List ℕ) (place label : ℕ) → place ≤ length labels → more ≡ insert labels place label → length more ≡ length labels + 1
length-with labels more place label within put = omega (arith, ap length put, length-insert labels place label within)

pub length-spread_with : (labels more after : List ℕ) (place label : ℕ) → place ≤ length labels → more ≡ insert labels place label → after ≡ spread (length more) → length after ≡ length labels + 1
length-spread_with labels more after place label within put all = omega (arith, ap length all, length-multiples (gap_of (length more)) (length more), length-with labels more place label within put)
