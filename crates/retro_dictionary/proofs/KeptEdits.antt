-- What is kept of rows stays so where a row is put in or taken out.
use Rattle.std.proofs.Common.{◌≡◌, ℕ, suc, ◌<◌, ◌≤◌, ℤ, Bool, true, false, cond, Option, Some, None, List, [], ◌∷◌, ◌++◌, length, take, drop, slice_get, sym, ap, ◌∙◌, arith, subst}
use Rattle.std.specs.Prelude.{IfSome}
use Rattle.std.specs.List.{AllByRecursion, filter, insert, remove}
use Rattle.std.specs.Option.{option_and_then, option_or, option_map}
use Rattle.std.proofs.lemmas.List.Edits.{length-insert, length-remove}
use Rattle.retro_base.specs.declared.row.Row.{Row}
use Rattle.retro_base.specs.OrderLaws.{all_with, all_without}
use Rattle.key_index.specs.KeyRows.{KeyRow, key_of, is_on, last_of, op_at, with_row, without}
use Rattle.lifetime_segments.specs.declared.lifetime.Lifetime.{Lifetime}
use Rattle.lifetime_segments.specs.Lifetimes.{label_end}
use Rattle.order_labels.specs.ApartLaws.{apart_with, apart_without}
use Rattle.order_labels.specs.Labels.{AreApart, label_limit}
use Rattle.retro_dictionary.specs.Changes.{Placed, placed_by}
use Rattle.retro_dictionary.specs.Edited.{IsBetween, CanPut, CanEnd, CanInsert, CanRemove, left_of, next_of, ended_at, joined_at, ended_by, joined_by}
use Rattle.retro_dictionary.specs.DictionaryLaws.{InsertionsAreKept, RemovalsAreKept}
use Rattle.retro_dictionary.specs.LabelledRows.{AreLabelled, ordered}
use Rattle.retro_dictionary.specs.Labelled.{labelled}
use Rattle.retro_dictionary.specs.Lifetimes.{end_of, put_by, lifetimes_of}
use Rattle.retro_dictionary.specs.Numbers.{IsOfNumbers}
use Rattle.retro_dictionary.proofs.KeptLifetimes.{ended-is, joined-is, length-ordered}
use Rattle.retro_dictionary.proofs.LabelledRows.{AllAbove, AllBelow, in_two, with-inserted, front-below, back-above, below-last, label_before-below, label-after, beside}
use Rattle.retro_dictionary.proofs.LabelledRows.{with_row-is, fresh-is, last-is, next-is, at-parts, removed-parts, without-is, last-at, next-at, op-is, length-labelled}

-- the row that left a pair stands before a label
placed_below : (label : ℕ) (row : KeyRow) → row.0 < label → (put : Option (ℤ × ℤ)) → IfSome (option_map (λ (pair : ℤ × ℤ). let placed : Placed = (row.0, pair) in placed) put) (λ (pair : Placed). pair.0 < label)
placed_below label row below None = tt
placed_below label row below (Some pair) = below

or_some : {A : Type 0} (P : A → Type 0) (o : Option A) (x : A) → IfSome o P → P x → IfSome (option_or o (Some x)) P
or_some P None x some here = here
or_some P (Some y) x some here = some

last_passes : (P : KeyRow → Type 0) (rows : List KeyRow) → AllByRecursion P rows → IfSome (last_of rows) P
last_passes P [] all = tt
last_passes P (row ∷ rows) all = or_some P (last_of rows) row (last_passes P rows all.1) all.0

all_filter : (P : KeyRow → Type 0) (test : KeyRow → Bool) (rows : List KeyRow) → AllByRecursion P rows → AllByRecursion P (filter test rows)
all_filter P test [] all = tt
all_filter P test (row ∷ rows) all = elim (test row) as (λ b. AllByRecursion P (cond b (row ∷ filter test rows) (filter test rows))) [ true ↦ (all.0, all_filter P test rows all.1) | false ↦ all_filter P test rows all.1 ]

placed_from : (label : ℕ) (o : Option KeyRow) → IfSome o (λ (row : KeyRow). row.0 < label) → IfSome (option_and_then placed_by o) (λ (pair : Placed). pair.0 < label)
placed_from label None some = tt
placed_from label (Some row) some = placed_below label row some (put_by row.1)

last_below : (label : ℕ) (key : ℤ) (rows : List KeyRow) → AllBelow label rows → IfSome (option_and_then placed_by (last_of (filter (is_on key) rows))) (λ (pair : Placed). pair.0 < label)
last_below label key rows below =
    placed_from label (last_of (filter (is_on key) rows)) (last_passes (λ (row : KeyRow). row.0 < label) (filter (is_on key) rows) (all_filter (λ (row : KeyRow). row.0 < label) (is_on key) rows below))

pub end_above : (label : ℕ) (key : ℤ) (rows : List KeyRow) → label < label_end → AllAbove label rows → label < end_of key rows
end_above label key [] limit all = limit
end_above label key (row ∷ rows) limit all = elim (is_on key row) as (λ b. label < cond b row.0 (end_of key rows)) [ true ↦ all.0 | false ↦ end_above label key rows limit all.1 ]

pub end_within : (key : ℤ) (rows : List KeyRow) → AllBelow label_end rows → end_of key rows ≤ label_end
end_within key [] all = omega arith
end_within key (row ∷ rows) all = elim (is_on key row) as (λ b. cond b row.0 (end_of key rows) ≤ label_end) [ true ↦ omega (arith, all.0) | false ↦ end_within key rows all.1 ]

pub below_all : (front back : List KeyRow) → AllBelow label_end (front ++ back) → AllBelow label_end back
below_all [] back all = all
below_all (row ∷ front) back all = below_all front back all.1

-- a row that is put in at a label between those beside its place
module _ (rows : List Row) (labels : List ℕ) (index : List KeyRow) (lifetimes : List (Lifetime (ℤ × ℤ))) (kept : AreLabelled rows labels index lifetimes)
    (place label : ℕ) (row : Row) (within : place ≤ length rows) (between : IsBetween labels place label) where
  apart : AreApart 1 0 label_limit labels
  apart = kept.rising.rising

  front : List KeyRow
  front = labelled (take place labels) (take place rows)

  back : List KeyRow
  back = labelled (drop place labels) (drop place rows)

  all_within : AllBelow label_end (labelled labels rows)
  all_within = below-last label_limit 0 labels rows apart

  label_within : label < label_end
  label_within = omega (arith, between.after_it, (beside 0 label_limit labels place (omega (arith, kept.as_many)) apart).1)

  left-is : left_of index label row.op ≡ option_and_then placed_by (last_of (filter (is_on (key_of row.op)) front))
  unfolding front
  left-is = ap (λ i. left_of i label row.op) kept.indexed ∙ ap (option_and_then placed_by) (last-is labels rows place kept.as_many apart label (key_of row.op) between)

  following-is : next_of index label row.op ≡ end_of (key_of row.op) back
  unfolding back
  following-is = ap (λ i. next_of i label row.op) kept.indexed ∙ next-is labels rows place kept.as_many apart label (key_of row.op) between

  pub can-end : CanEnd (left_of index label row.op) label (next_of index label row.op) lifetimes
  unfolding front back
  can-end = record {
    before = rw left-is (last_below label (key_of row.op) front (front-below label_limit 0 labels rows place label apart between.before));
    after_it = rw following-is (end_above label (key_of row.op) back label_within (back-above label_limit 0 labels rows place label apart between.after_it));
    within = rw following-is (end_within (key_of row.op) back (below_all front back (subst (AllBelow label_end) (in_two labels rows place kept.as_many) all_within)));
    room = omega (arith, ap length kept.held, ap length kept.indexed, length-ordered index, length-labelled labels rows, kept.replayable.few);
  }

  ended-held : ended_by label row.op index lifetimes ≡ ordered (lifetimes_of (with_row label row.op index))
  unfolding front back
  ended-held =
      ap (λ left. ended_at left label (put_by row.op) (next_of index label row.op) lifetimes) left-is
      ∙ ap (λ next. ended_at (option_and_then placed_by (last_of (filter (is_on (key_of row.op)) front))) label (put_by row.op) next lifetimes) following-is
      ∙ ap (ended_at (option_and_then placed_by (last_of (filter (is_on (key_of row.op)) front))) label (put_by row.op) (end_of (key_of row.op) back))
      (kept.held ∙ ap (λ i. ordered (lifetimes_of i)) (kept.indexed ∙ in_two labels rows place kept.as_many))
      ∙ ended-is front (label, row.op) back
      ∙ sym (ap (λ i. ordered (lifetimes_of i)) (ap (with_row label row.op) kept.indexed
      ∙ with_row-is labels rows place kept.as_many apart label row (omega (arith, between.before)) between.after_it
      ∙ with-inserted labels rows place label row kept.as_many))

  pub no_row-at : op_at label index ≡ None
  no_row-at = ap (op_at label) kept.indexed ∙ fresh-is labels rows place kept.as_many apart label between

  pub kept-with : CanInsert rows place row → AreLabelled (insert rows place row) (insert labels place label) (with_row label row.op index) (ended_by label row.op index lifetimes)
  kept-with can = record {
    replayable = can.after;
    of_numbers = all_with (λ r. IsOfNumbers r.op) rows place row kept.of_numbers can.of_numbers;
    as_many = omega (arith, length-insert labels place label (omega (arith, within, kept.as_many)), length-insert rows place row within, kept.as_many);
    rising = record {
      few = omega (arith, length-insert labels place label (omega (arith, within, kept.as_many)), length-insert rows place row within, kept.as_many, can.after.few);
      rising = apart_with 1 0 label_limit labels place label (omega (arith, within, kept.as_many)) apart (omega (arith, between.before)) (omega (arith, between.after_it));
    };
    indexed = ap (with_row label row.op) kept.indexed ∙ with_row-is labels rows place kept.as_many apart label row (omega (arith, between.before)) between.after_it;
    held = ended-held;
  }

-- a row that is taken out
module _ (rows : List Row) (labels : List ℕ) (index : List KeyRow) (lifetimes : List (Lifetime (ℤ × ℤ))) (kept : AreLabelled rows labels index lifetimes)
    (place label : ℕ) (row : Row) (label_there : slice_get labels place ≡ Some label) (row_there : slice_get rows place ≡ Some row) where
  rising_labels : AreApart 1 0 label_limit labels
  rising_labels = kept.rising.rising

  former : List KeyRow
  former = labelled (take place labels) (take place rows)

  later : List KeyRow
  later = labelled (drop (suc place) labels) (drop (suc place) rows)

  parts : labelled labels rows ≡ former ++ (label, row.op) ∷ later
  unfolding former later
  parts = at-parts labels rows place kept.as_many rising_labels label row label_there row_there

  left-at : left_of index label row.op ≡ option_and_then placed_by (last_of (filter (is_on (key_of row.op)) former))
  unfolding former
  left-at = ap (λ i. left_of i label row.op) kept.indexed ∙ ap (option_and_then placed_by) (last-at labels rows place kept.as_many rising_labels label row label_there row_there (key_of row.op))

  following-at : next_of index label row.op ≡ end_of (key_of row.op) later
  unfolding later
  following-at = ap (λ i. next_of i label row.op) kept.indexed ∙ next-at labels rows place kept.as_many rising_labels label row label_there row_there (key_of row.op)

  all_rows : AllBelow label_end (former ++ (label, row.op) ∷ later)
  all_rows = subst (AllBelow label_end) parts (below-last label_limit 0 labels rows rising_labels)

  label_in : label < label_end
  label_in = (below_all former ((label, row.op) ∷ later) all_rows).0

  raised : (n : ℕ) (o : Option Placed) → label < n → IfSome o (λ (pair : Placed). pair.0 < label) → IfSome o (λ (pair : Placed). pair.0 < n)
  raised n None less some = tt
  raised n (Some pair) less some = omega arith

  label_next : label < end_of (key_of row.op) later
  unfolding later
  label_next = end_above label (key_of row.op) later label_in (back-above label_limit 0 labels rows (suc place) label rising_labels (label-after label_limit 0 labels place label rising_labels label_there))

  pub can-join : CanPut (left_of index label row.op) (next_of index label row.op) lifetimes
  unfolding former
  can-join = record {
    rises = rw left-at (rw following-at (raised (end_of (key_of row.op) later)
        (option_and_then placed_by (last_of (filter (is_on (key_of row.op)) former))) label_next
        (last_below label (key_of row.op) former (front-below label_limit 0 labels rows place label rising_labels
        (label_before-below label_limit 0 labels place label rising_labels label_there)))));
    within = rw following-at (end_within (key_of row.op) later (below_all former ((label, row.op) ∷ later) all_rows).1);
    room = omega (arith, ap length kept.held, ap length kept.indexed, length-ordered index, length-labelled labels rows, kept.replayable.few);
  }

  pub op-there : op_at label index ≡ Some row.op
  op-there = ap (op_at label) kept.indexed ∙ op-is labels rows place kept.as_many rising_labels label row label_there row_there

  joined-held : joined_by label row.op index lifetimes ≡ ordered (lifetimes_of (without label index))
  unfolding former later
  joined-held =
      ap (λ left. joined_at left label (put_by row.op) (next_of index label row.op) lifetimes) left-at
      ∙ ap (λ next. joined_at (option_and_then placed_by (last_of (filter (is_on (key_of row.op)) former))) label (put_by row.op) next lifetimes) following-at
      ∙ ap (joined_at (option_and_then placed_by (last_of (filter (is_on (key_of row.op)) former))) label (put_by row.op) (end_of (key_of row.op) later))
      (kept.held ∙ ap (λ i. ordered (lifetimes_of i)) (kept.indexed ∙ parts))
      ∙ joined-is former (label, row.op) later
      ∙ sym (ap (λ i. ordered (lifetimes_of i)) (ap (without label) kept.indexed
      ∙ without-is labels rows place kept.as_many rising_labels label row label_there row_there
      ∙ removed-parts labels rows place kept.as_many rising_labels label row label_there row_there))

  pub kept-without : CanRemove rows place → AreLabelled (remove rows place) (remove labels place) (without label index) (joined_by label row.op index lifetimes)
  kept-without can = record {
    replayable = can.after;
    of_numbers = all_without (λ r. IsOfNumbers r.op) rows place kept.of_numbers;
    as_many = omega (arith, length-remove labels place (omega (arith, can.within, kept.as_many)), length-remove rows place can.within, kept.as_many);
    rising = record {
      few = omega (arith, length-remove labels place (omega (arith, can.within, kept.as_many)), kept.rising.few);
      rising = apart_without 1 0 label_limit labels place (omega (arith, can.within, kept.as_many)) rising_labels;
    };
    indexed = ap (without label) kept.indexed ∙ without-is labels rows place kept.as_many rising_labels label row label_there row_there;
    held = joined-held;
  }

pub insertions-kept : InsertionsAreKept
insertions-kept rows labels index lifetimes place label row kept between can = (
  no_row-at rows labels index lifetimes kept place label row can.within between,
  can-end rows labels index lifetimes kept place label row can.within between,
  kept-with rows labels index lifetimes kept place label row can.within between can,
)

pub removals-kept : RemovalsAreKept
removals-kept rows labels index lifetimes place label row kept label_there row_there can = (
  can-join rows labels index lifetimes kept place label row label_there row_there,
  kept-without rows labels index lifetimes kept place label row label_there row_there can,
)
