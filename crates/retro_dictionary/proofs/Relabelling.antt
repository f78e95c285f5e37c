-- Rows that are given other labels and their own again, and the labels that all have once one more is there.
use Rattle.std.proofs.Common.{◌≡◌, ℕ, zero, suc, ◌+◌, ◌*◌, ◌<◌, ◌≤◌, ℤ, ◌==◌, false, cond, Some, None, List, [], ◌∷◌, ◌++◌, length, take, drop, slice_get, refl, sym, ap, ◌∙◌, arith, subst, inl, inr, add-one}
use Rattle.std.specs.List.{AllByRecursion, insert, remove}
use Rattle.std.specs.Option.{option_map_or}
use Rattle.std.proofs.Math.Seq.{take-length}
use Rattle.std.proofs.lemmas.Bool.{cases_lt, eq-eqb, ne_eqb, or_left, or_right}
use Rattle.std.proofs.lemmas.List.{append_assoc, append-nil, length-append, length-drop, take-append-le, drop-append-le, drop_all}
use Rattle.std.proofs.lemmas.List.Edits.{length-insert, length-remove}
use Rattle.retro_base.specs.Limits.{most_rows}
use Rattle.retro_base.specs.OrderLaws.{all_with}
use Rattle.retro_base.specs.declared.op.Op.{Op}
use Rattle.retro_base.specs.declared.row.Row.{Row}
use Rattle.key_index.specs.KeyRows.{KeyRow, op_at, with_row, without}
use Rattle.key_index.specs.Relabelled.{Rise, HoldsLabels, counterpart, relabelled, is_in}
use Rattle.lifetime_segments.specs.declared.lifetime.Lifetime.{Lifetime}
use Rattle.order_labels.specs.Labels.{AreApart, label_limit, label_before, label_after as label_later, has_room, middle, gap_of, multiples, spread, inserted}
use Rattle.order_labels.specs.ApartLaws.{apart_without}
use Rattle.order_labels.specs.SpreadLaws.{length-multiples, multiple-at, spread-rises}
use Rattle.retro_dictionary.specs.Edited.{IsBetween, CanInsert}
use Rattle.retro_dictionary.specs.LabelledRows.{AreLabelled, ordered}
use Rattle.retro_dictionary.specs.Labelled.{labelled}
use Rattle.retro_dictionary.specs.Lifetimes.{lifetimes_of}
use Rattle.retro_dictionary.specs.Numbers.{IsOfNumbers}
use Rattle.retro_dictionary.specs.Relabelling.{CanRelabel, new_label, other_labels, relabelled_with}
use Rattle.retro_dictionary.proofs.LabelledRows.{AllAbove, rises, front-below, in_two, without-parts, with_row-parts, with_row-is, fresh-is}
use Rattle.retro_base.specs.EditedLists.{insert-remove}

-- labels that lie apart rise
above : (last first lower : ℕ) (labels : List ℕ) → lower ≤ first → AreApart 1 first last labels → AllByRecursion (λ later. lower < later) labels
above last first lower [] order apart = tt
above last first lower (label ∷ labels) order apart = (omega (arith, apart.0), above last label lower labels (omega (arith, apart.0)) apart.1)

apart-rise : (last first : ℕ) (labels : List ℕ) → AreApart 1 first last labels → Rise labels
apart-rise last first [] apart = tt
apart-rise last first (label ∷ labels) apart = (above last label label labels (omega arith) apart.1, apart-rise last label labels apart.1)

-- the label of each row is among them
held-more : (label : ℕ) (labels : List ℕ) (rows : List KeyRow) → HoldsLabels labels rows → HoldsLabels (label ∷ labels) rows
held-more label labels [] held = tt
held-more label labels (row ∷ rows) held = (or_right (label == row.0) (is_in labels row.0) held.0, held-more label labels rows held.1)

labelled-held : (labels : List ℕ) (rows : List Row) → HoldsLabels labels (labelled labels rows)
labelled-held [] rows = tt
labelled-held (label ∷ labels) [] = tt
labelled-held (label ∷ labels) (row ∷ rows) = (or_left (label == label) (is_in labels label) (eq-eqb label label refl), held-more label labels (labelled labels rows) (labelled-held labels rows))

-- rows above a label do not have it
skipped : (old new : ℕ) (former fresh : List ℕ) (rows : List KeyRow) → AllAbove old rows → relabelled (old ∷ former) (new ∷ fresh) rows ≡ relabelled former fresh rows
skipped old new former fresh [] above = refl
skipped old new former fresh (row ∷ rows) above =
    ap (λ b. (cond b new (counterpart former fresh row.0), row.1) ∷ relabelled (old ∷ former) (new ∷ fresh) rows) (ne_eqb old row.0 (λ same. omega arith))
    ∙ ap (λ rest. (counterpart former fresh row.0, row.1) ∷ rest) (skipped old new former fresh rows above.1)

-- rows that are given other labels
relabelled-is : (last first : ℕ) (former fresh : List ℕ) (rows : List Row) → AreApart 1 first last former → length fresh ≡ length former → relabelled former fresh (labelled former rows) ≡ labelled fresh rows
relabelled-is last first [] [] rows apart same = refl
relabelled-is last first [] (new ∷ fresh) rows apart same = absurd (omega arith)
relabelled-is last first (old ∷ former) [] rows apart same = absurd (omega arith)
relabelled-is last first (old ∷ former) (new ∷ fresh) [] apart same = refl
relabelled-is last first (old ∷ former) (new ∷ fresh) (row ∷ rows) apart same =
    ap (λ b. (cond b new (counterpart former fresh old), row.op) ∷ relabelled (old ∷ former) (new ∷ fresh) (labelled former rows)) (eq-eqb old old refl)
    ∙ ap (λ rest. (new, row.op) ∷ rest) (skipped old new former fresh (labelled former rows) (rises last first (old ∷ former) (row ∷ rows) apart).0 ∙ relabelled-is last old former fresh rows apart.1 (omega arith))

-- a label lies between those beside its place once it is taken out
above-removed : (last first : ℕ) (labels : List ℕ) (place label : ℕ) → AreApart 1 first last labels → slice_get labels place ≡ Some label → label_before first (remove labels place) place < label
above-removed last first [] place label apart there = absurd (cc)
above-removed last first (next ∷ labels) zero label apart there = let same : next ≡ label = cc in omega (arith, apart.0)
above-removed last first (next ∷ labels) (suc place) label apart there = above-removed last next labels place label apart.1 there

below-removed : (last first : ℕ) (labels : List ℕ) (place label : ℕ) → AreApart 1 first last labels → slice_get labels place ≡ Some label → label < label_later last (remove labels place) place
below-removed last first [] place label apart there = absurd (cc)
below-removed last first (next ∷ []) zero label apart there = let same : next ≡ label = cc in omega (arith, apart.1)
below-removed last first (next ∷ other ∷ labels) zero label apart there = let same : next ≡ label = cc in omega (arith, apart.1.0)
below-removed last first (next ∷ labels) (suc place) label apart there = below-removed last next labels place label apart.1 there

-- the first multiples of a number
take-multiples : (gap place count : ℕ) → place ≤ count → take place (multiples gap count) ≡ multiples gap place
take-multiples gap place zero within = let none : place ≡ 0 = omega arith in rw none refl
take-multiples gap place (suc count) within = elim (cases_lt place (suc count)) [
  | inl below ↦ take-append-le place (multiples gap count) ((count + 1) * gap ∷ []) (omega (arith, length-multiples gap count)) ∙ take-multiples gap place count (omega arith)
  | inr last ↦
      let all : place ≡ suc count = omega arith in
      let many : length (multiples gap (suc count)) ≡ suc count = length-multiples gap (suc count) in
      rw all (ap (λ n. take n (multiples gap (suc count))) (sym many) ∙ take-length (multiples gap (suc count)))
]

-- those from a place on, and one more
drop-multiples : (gap from place : ℕ) → from ≤ place → drop from (multiples gap (place + 1)) ≡ drop from (multiples gap place) ++ (place + 1) * gap ∷ []
drop-multiples gap from place order =
    ap (λ count. drop from (multiples gap count)) (add-one place) ∙ drop-append-le from (multiples gap place) ((place + 1) * gap ∷ []) (omega (arith, length-multiples gap place))

pub none-yet : (list : List ℕ) (gap from : ℕ) → list ≡ list ++ drop from (multiples gap from)
none-yet list gap from = sym (ap (λ xs. list ++ xs) (drop_all from (multiples gap from) (omega (arith, length-multiples gap from))) ∙ append-nil list)

pub one-more : (list : List ℕ) (gap from place : ℕ) → from ≤ place → (list ++ drop from (multiples gap place)) ++ (place + 1) * gap ∷ [] ≡ list ++ drop from (multiples gap (place + 1))
one-more list gap from place order = append_assoc list (drop from (multiples gap place)) ((place + 1) * gap ∷ []) ∙ ap (λ xs. list ++ xs) (sym (drop-multiples gap from place order))

pub length-more : (list : List ℕ) (gap from place : ℕ) → length (list ++ drop from (multiples gap place)) ≤ length list + place
length-more list gap from place = omega (arith, length-append list (drop from (multiples gap place)), length-drop from (multiples gap place), length-multiples gap place)

-- all but the one at a place
pub others-are : (count place : ℕ) → place ≤ count → multiples (gap_of (count + 1)) place ++ drop (place + 1) (multiples (gap_of (count + 1)) (count + 1)) ≡ other_labels count place
others-are count place within =
    let gap = gap_of (count + 1) in
    ap (λ xs. xs ++ drop (place + 1) (multiples gap (count + 1))) (sym (take-multiples gap place (count + 1) (omega arith)))
    ∙ ap (λ n. take place (multiples gap (count + 1)) ++ drop n (multiples gap (count + 1))) (add-one place)

-- labels that are spread
pub length-spread : (count : ℕ) → length (spread count) ≡ count
length-spread count = length-multiples (gap_of count) count

pub label-there : (count counted gap index label : ℕ) → counted ≡ count → gap ≡ gap_of counted → label ≡ (index + 1) * gap → index < count → slice_get (spread count) index ≡ Some label
label-there count counted gap index label counted_is gap_is label_is within = multiple-at (gap_of count) count index within ∙ ap Some (sym (label_is ∙ ap (λ g. (index + 1) * g) (gap_is ∙ ap gap_of counted_is)))

-- and those of all rows once one more is there
module _ (count place : ℕ) (within : place ≤ count) (few : count < most_rows) where
  abbrev all_labels : List ℕ
  all_labels = spread (count + 1)

  all-rise : AreApart 1 0 label_limit all_labels
  all-rise = spread-rises (count + 1) (omega arith)

  new-there : slice_get all_labels place ≡ Some (new_label count place)
  new-there = multiple-at (gap_of (count + 1)) (count + 1) place (omega arith)

  others-rise : AreApart 1 0 label_limit (other_labels count place)
  others-rise = apart_without 1 0 label_limit all_labels place (omega (arith, length-spread (count + 1))) all-rise

  length-others : length (other_labels count place) ≡ count
  length-others = omega (arith, length-remove all_labels place (omega (arith, length-spread (count + 1))), length-spread (count + 1))

  new-between : IsBetween (other_labels count place) place (new_label count place)
  new-between = record {
    before = above-removed label_limit 0 all_labels place (new_label count place) all-rise new-there;
    after_it = below-removed label_limit 0 all_labels place (new_label count place) all-rise new-there;
  }

-- the rows of a dictionary get them
module _ (rows : List Row) (labels : List ℕ) (index : List KeyRow) (lifetimes : List (Lifetime (ℤ × ℤ))) (kept : AreLabelled rows labels index lifetimes)
    (place : ℕ) (within : place ≤ length rows) (few : length rows < most_rows) where
  abbrev others : List ℕ
  others = other_labels (length rows) place

  abbrev new : ℕ
  new = new_label (length rows) place

  abbrev all : Row → List KeyRow
  all row = labelled (spread (length rows + 1)) (insert rows place row)

  rise : AreApart 1 0 label_limit others
  rise = others-rise (length rows) place within few

  many : length others ≡ length rows
  many = length-others (length rows) place within few

  between : IsBetween others place new
  between = new-between (length rows) place within few

  relabelled-rows : relabelled labels others index ≡ labelled others rows
  relabelled-rows = ap (relabelled labels others) kept.indexed ∙ relabelled-is label_limit 0 labels others rows kept.rising.rising (omega (arith, many, kept.as_many))

  can-relabel : CanRelabel labels others new index
  can-relabel = record {
    former_rise = apart-rise label_limit 0 labels kept.rising.rising;
    fresh_rise = apart-rise label_limit 0 others rise;
    as_many = omega (arith, many, kept.as_many);
    held = subst (HoldsLabels labels) (sym kept.indexed) (labelled-held labels rows);
    held_fresh = subst (HoldsLabels others) (sym relabelled-rows) (labelled-held others rows);
    free = ap (op_at new) relabelled-rows ∙ fresh-is others rows place many rise new between;
    undone = λ op.
        ap (λ i. without new (with_row new op i)) relabelled-rows
        ∙ ap (without new) (with_row-parts others rows place many rise new op (omega (arith, between.before)) between.after_it)
        ∙ without-parts new (labelled (take place others) (take place rows)) (labelled (drop place others) (drop place rows)) op (front-below label_limit 0 others rows place new rise between.before)
        ∙ sym (relabelled-rows ∙ in_two others rows place many);
    back = ap (relabelled others labels) relabelled-rows ∙ relabelled-is label_limit 0 others labels rows rise (omega (arith, many, kept.as_many)) ∙ sym kept.indexed;
  }

  -- all rows by their labels
  all-are : (row : Row) → relabelled_with labels others new row.op index ≡ all row
  all-are row =
      ap (with_row new row.op) relabelled-rows ∙ with_row-is others rows place many rise new row (omega (arith, between.before)) between.after_it
      ∙ ap (λ ls. labelled ls (insert rows place row)) (insert-remove (spread (length rows + 1)) place new (new-there (length rows) place within few))

  -- and what is kept of them
  pub kept-all : (row : Row) → CanInsert rows place row → AreLabelled (insert rows place row) (spread (length rows + 1)) (all row) (ordered (lifetimes_of (all row)))
  kept-all row can = record {
    replayable = can.after;
    of_numbers = all_with (λ r. IsOfNumbers r.op) rows place row kept.of_numbers can.of_numbers;
    as_many = omega (arith, length-spread (length rows + 1), length-insert rows place row within);
    rising = record { few = omega (arith, length-spread (length rows + 1)); rising = spread-rises (length rows + 1) (omega arith) };
    indexed = refl;
    held = refl;
  }

  -- where they were counted and listed
  module _ (former fresh : List ℕ) (label count : ℕ) (former_is : former ≡ labels) (fresh_is : fresh ≡ other_labels count place)
      (count_is : count ≡ length rows) (label_is : label ≡ new_label count place) where
    pub can-relabel-listed : CanRelabel former fresh label index
    can-relabel-listed =
        subst (λ ls. CanRelabel ls fresh label index) (sym former_is)
        (subst (λ ls. CanRelabel labels ls label index) (sym (fresh_is ∙ ap (λ n. other_labels n place) count_is))
        (subst (λ l. CanRelabel labels others l index) (sym (label_is ∙ ap (λ n. new_label n place) count_is)) can-relabel))

    pub all-listed : (row : Row) → relabelled_with former fresh label row.op index ≡ all row
    all-listed row =
        ap (λ ls. relabelled_with ls fresh label row.op index) former_is
        ∙ ap (λ ls. relabelled_with labels ls label row.op index) (fresh_is ∙ ap (λ n. other_labels n place) count_is)
        ∙ ap (λ l. relabelled_with labels others l row.op index) (label_is ∙ ap (λ n. new_label n place) count_is)
        ∙ all-are row

-- the new row is taken out again
pub taken-out : (former fresh : List ℕ) (label : ℕ) (op : Op) (index more less : List KeyRow) → CanRelabel former fresh label index → more
    ≡ relabelled_with former fresh label op index → less ≡ without label more → less ≡ relabelled former fresh index
taken-out former fresh label op index more less can put taken = taken ∙ ap (without label) put ∙ can.undone op

-- where no label is left
pub all-spread : (labels : List ℕ) (place : ℕ) → has_room labels place ≡ false → inserted labels place ≡ spread (length labels + 1)
all-spread labels place full = ap (λ b. option_map_or (λ label. insert labels place label) (cond b (Some (middle labels place)) None) (spread (length labels + 1))) full

pub inserted-full : (labels : List ℕ) (rows : List Row) (place : ℕ) → length labels ≡ length rows → has_room labels place ≡ false → inserted labels place ≡ spread (length rows + 1)
inserted-full labels rows place same full = all-spread labels place full ∙ ap (λ n. spread (n + 1)) same
