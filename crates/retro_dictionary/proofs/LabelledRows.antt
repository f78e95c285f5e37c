-- Rows beside labels that rise: an edit by label is one by place.
use Rattle.std.proofs.Common.{◌≡◌, ℕ, zero, suc, ◌-◌, ◌<◌, ◌≤◌, ℤ, Bool, true, false, ◌&&◌, ◌==◌, cond, Some, None, List, [], ◌∷◌, ◌++◌, length, take, drop, slice_get, refl, sym, ap, ◌∙◌, arith, subst, ltb}
use Rattle.std.specs.List.{AllByRecursion, filter, find, insert, remove}
use Rattle.std.specs.Option.{option_and_then}
use Rattle.std.proofs.lemmas.List.{append_assoc, length-take, take-append-drop}
use Rattle.std.proofs.lemmas.Bool.{le-leb, lt-leb, lt-ltb, le-ltb, eq-eqb, ne_eqb}
use Rattle.retro_base.specs.declared.row.Row.{Row}
use Rattle.retro_base.specs.declared.op.Op.{Op}
use Rattle.retro_base.specs.OrderLaws.{all_weaker}
use Rattle.key_index.specs.KeyRows.{KeyRow, LabelsRise, is_on, last_of, last_before, first_after, op_at, without, up_to, behind as after, with_row}
use Rattle.key_index.specs.RowsBeside.{last_up_to}
use Rattle.lifetime_segments.specs.declared.lifetime.Lifetime.{Lifetime}
use Rattle.lifetime_segments.specs.Lifetimes.{items_at}
use Rattle.lifetime_segments.specs.Ordered.{in_order}
use Rattle.retro_dictionary.specs.Asked.{pairs_at, value_at, value_put}
use Rattle.retro_dictionary.specs.PairSearch.{pair_before}
use Rattle.order_labels.specs.Labels.{AreApart, label_limit, label_before, label_after as label_later}
use Rattle.retro_dictionary.specs.Edited.{IsBetween, label_or_end}
use Rattle.retro_dictionary.specs.Labelled.{labelled}
use Rattle.retro_dictionary.specs.Lifetimes.{end_of}

abbrev pub AllAbove : ℕ → List KeyRow → Type 0
AllAbove label rows = AllByRecursion (λ (row : KeyRow). label < row.0) rows

abbrev pub AllBelow : ℕ → List KeyRow → Type 0
AllBelow label rows = AllByRecursion (λ (row : KeyRow). row.0 < label) rows

-- what is known of labels that rise
module _ (last : ℕ) where
  above : (first lower : ℕ) (labels : List ℕ) (rows : List Row) → lower ≤ first → AreApart 1 first last labels → AllAbove lower (labelled labels rows)
  above first lower [] rows order apart = tt
  above first lower (label ∷ labels) [] order apart = tt
  above first lower (label ∷ labels) (row ∷ rows) order apart = (omega (arith, apart.0), above label lower labels rows (omega (arith, apart.0)) apart.1)

  pub first_below_last : (first : ℕ) (labels : List ℕ) → AreApart 1 first last labels → first < last
  first_below_last first [] apart = omega arith
  first_below_last first (label ∷ labels) apart = omega (arith, apart.0, first_below_last label labels apart.1)

  pub below-last : (first : ℕ) (labels : List ℕ) (rows : List Row) → AreApart 1 first last labels → AllBelow last (labelled labels rows)
  below-last first [] rows apart = tt
  below-last first (label ∷ labels) [] apart = tt
  below-last first (label ∷ labels) (row ∷ rows) apart = (first_below_last label labels apart.1, below-last label labels rows apart.1)

  pub rises : (first : ℕ) (labels : List ℕ) (rows : List Row) → AreApart 1 first last labels → LabelsRise (labelled labels rows)
  rises first [] rows apart = tt
  rises first (label ∷ labels) [] apart = tt
  rises first (label ∷ labels) (row ∷ rows) apart = (above label label labels rows (omega arith) apart.1, rises label labels rows apart.1)

  -- the labels before a place are up to the one there
  pub first_up_to : (first : ℕ) (labels : List ℕ) (place : ℕ) → AreApart 1 first last labels → first ≤ label_before first labels place
  first_up_to first labels zero apart = omega arith
  first_up_to first [] (suc place) apart = omega arith
  first_up_to first (label ∷ labels) (suc place) apart = omega (arith, apart.0, first_up_to label labels place apart.1)

  pub front-below : (first : ℕ) (labels : List ℕ) (rows : List Row) (place label : ℕ) → AreApart 1 first last labels → label_before first labels place < label
      → AllBelow label (labelled (take place labels) (take place rows))
  front-below first labels rows zero label apart before = tt
  front-below first [] rows (suc place) label apart before = tt
  front-below first (next ∷ labels) [] (suc place) label apart before = tt
  front-below first (next ∷ labels) (row ∷ rows) (suc place) label apart before =
      (omega (arith, first_up_to next labels place apart.1), front-below next labels rows place label apart.1 before)

  pub back-above : (first : ℕ) (labels : List ℕ) (rows : List Row) (place label : ℕ) → AreApart 1 first last labels → label < label_later last labels place
      → AllAbove label (labelled (drop place labels) (drop place rows))
  back-above first [] rows zero label apart after = tt
  back-above first [] rows (suc place) label apart after = tt
  back-above first (next ∷ labels) [] zero label apart after = tt
  back-above first (next ∷ labels) (row ∷ rows) zero label apart after = (after, above next label labels rows (omega arith) apart.1)
  back-above first (next ∷ labels) [] (suc place) label apart after = none place labels where
    none : (place : ℕ) (labels : List ℕ) → AllAbove label (labelled (drop place labels) [])
    none zero [] = tt
    none zero (l ∷ ls) = tt
    none (suc place) [] = tt
    none (suc place) (l ∷ ls) = none place ls
  back-above first (next ∷ labels) (row ∷ rows) (suc place) label apart after = back-above next labels rows place label apart.1 after

-- beside each other part by part
pub labelled-append : (ls ms : List ℕ) (rows more : List Row) → length ls ≡ length rows → labelled (ls ++ ms) (rows ++ more) ≡ labelled ls rows ++ labelled ms more
labelled-append [] ms [] more same = refl
labelled-append [] ms (row ∷ rows) more same = absurd (omega arith)
labelled-append (l ∷ ls) ms [] more same = absurd (omega arith)
labelled-append (l ∷ ls) ms (row ∷ rows) more same = ap (λ rest. (l, row.op) ∷ rest) (labelled-append ls ms rows more (omega arith))

pub length-fronts : {A B : Type 0} (xs : List A) (ys : List B) (place : ℕ) → length xs ≡ length ys → length (take place xs) ≡ length (take place ys)
length-fronts xs ys place same = omega (arith, length-take place xs, length-take place ys)

-- the rows in front of a place, and those from there on
pub in_two : (labels : List ℕ) (rows : List Row) (place : ℕ) → length labels ≡ length rows → labelled labels rows ≡ labelled (take place labels) (take place rows) ++ labelled (drop place labels) (drop place rows)
in_two labels rows place same =
    sym (ap (λ ls. labelled ls (take place rows ++ drop place rows)) (take-append-drop place labels) ∙ ap (labelled labels) (take-append-drop place rows))
    ∙ labelled-append (take place labels) (drop place labels) (take place rows) (drop place rows) (length-fronts labels rows place same)

pub with-inserted : (labels : List ℕ) (rows : List Row) (place label : ℕ) (row : Row) → length labels ≡ length rows
    → labelled (insert labels place label) (insert rows place row) ≡ labelled (take place labels) (take place rows) ++ (label, row.op) ∷ labelled (drop place labels) (drop place rows)
with-inserted labels rows place label row same = labelled-append (take place labels) (label ∷ drop place labels) (take place rows) (row ∷ drop place rows) (length-fronts labels rows place same)

-- rows up to a label, where it stands between two parts
module _ (label : ℕ) where
  up_to-parts : (front back : List KeyRow) → AllByRecursion (λ (row : KeyRow). row.0 ≤ label) front → AllAbove label back → up_to label (front ++ back) ≡ front
  up_to-parts [] [] here there = refl
  up_to-parts [] (row ∷ back) here there = ap (λ b. cond b (row ∷ up_to label back) (up_to label back)) (lt-leb row.0 label there.0) ∙ up_to-parts [] back here there.1
  up_to-parts (row ∷ front) back here there = ap (λ b. cond b (row ∷ up_to label (front ++ back)) (up_to label (front ++ back))) (le-leb row.0 label here.0) ∙ ap (λ rest. row ∷ rest) (up_to-parts front back here.1 there)

  after-parts : (front back : List KeyRow) → AllByRecursion (λ (row : KeyRow). row.0 ≤ label) front → AllAbove label back → after label (front ++ back) ≡ back
  after-parts [] [] here there = refl
  after-parts [] (row ∷ back) here there = ap (λ b. cond b (row ∷ after label back) (after label back)) (lt-ltb label row.0 there.0) ∙ ap (λ rest. row ∷ rest) (after-parts [] back here there.1)
  after-parts (row ∷ front) back here there = ap (λ b. cond b (row ∷ after label (front ++ back)) (after label (front ++ back))) (le-ltb label row.0 here.0) ∙ after-parts front back here.1 there

  -- a row at the label itself stands between
  is_at : KeyRow → Bool
  is_at row = row.0 == label

  lookup-parts : (front back : List KeyRow) (op : Op) → AllBelow label front → op_at label (front ++ (label, op) ∷ back) ≡ Some op
  lookup-parts [] back op below = ap (λ b. cond b (Some op) (op_at label back)) (eq-eqb label label refl)
  lookup-parts (row ∷ front) back op below = ap (λ b. cond b (Some row.1) (op_at label (front ++ (label, op) ∷ back))) (ne_eqb row.0 label (λ same. omega arith)) ∙ lookup-parts front back op below.1

  pub lookup-none : (front back : List KeyRow) → AllBelow label front → AllAbove label back → op_at label (front ++ back) ≡ None
  lookup-none [] [] below above = refl
  lookup-none [] (row ∷ back) below above = ap (λ b. cond b (Some row.1) (op_at label back)) (ne_eqb row.0 label (λ same. omega arith)) ∙ lookup-none [] back below above.1
  lookup-none (row ∷ front) back below above = ap (λ b. cond b (Some row.1) (op_at label (front ++ back))) (ne_eqb row.0 label (λ same. omega arith)) ∙ lookup-none front back below.1 above

  pub without-parts : (front back : List KeyRow) (op : Op) → AllBelow label front → without label (front ++ (label, op) ∷ back) ≡ front ++ back
  without-parts [] back op below = ap (λ b. cond b back ((label, op) ∷ without label back)) (eq-eqb label label refl)
  without-parts (row ∷ front) back op below = ap (λ b. cond b (front ++ (label, op) ∷ back) (row ∷ without label (front ++ (label, op) ∷ back)))
      (ne_eqb row.0 label (λ same. omega arith)) ∙ ap (λ rest. row ∷ rest) (without-parts front back op below.1)

  -- the rows on a key beside it
  before-none : (key : ℤ) (back : List KeyRow) → AllByRecursion (λ (row : KeyRow). label ≤ row.0) back → filter (λ (row : KeyRow). is_on key row && ltb row.0 label) back ≡ []
  before-none key [] from = refl
  before-none key (row ∷ back) from =
      ap (λ b. cond (is_on key row && b) (row ∷ filter (λ (r : KeyRow). is_on key r && ltb r.0 label) back) (filter (λ (r : KeyRow). is_on key r && ltb r.0 label) back)) (le-ltb row.0 label from.0)
      ∙ elim (is_on key row) as (λ b. cond (b && false) (row ∷ filter (λ (r : KeyRow). is_on key r && ltb r.0 label) back)
      (filter (λ (r : KeyRow). is_on key r && ltb r.0 label) back) ≡ []) [ true ↦ before-none key back from.1 | false ↦ before-none key back from.1 ]

  before-parts : (key : ℤ) (front back : List KeyRow) → AllBelow label front → AllByRecursion (λ (row : KeyRow). label ≤ row.0) back
      → filter (λ (row : KeyRow). is_on key row && ltb row.0 label) (front ++ back) ≡ filter (is_on key) front
  before-parts key [] back below from = before-none key back from
  before-parts key (row ∷ front) back below from =
      ap (λ b. cond (is_on key row && b) (row ∷ filter (λ (r : KeyRow). is_on key r && ltb r.0 label) (front ++ back)) (filter (λ (r : KeyRow). is_on key r && ltb r.0 label) (front ++ back))) (lt-ltb row.0 label below.0)
      ∙ elim (is_on key row) as (λ b. cond (b && true) (row ∷ filter (λ (r : KeyRow). is_on key r && ltb r.0 label) (front ++ back))
      (filter (λ (r : KeyRow). is_on key r && ltb r.0 label) (front ++ back)) ≡ cond b (row ∷ filter (is_on key) front) (filter (is_on key) front)) [
        | true ↦ ap (λ rest. row ∷ rest) (before-parts key front back below.1 from)
        | false ↦ before-parts key front back below.1 from
      ]

  pub last_before-parts : (key : ℤ) (front back : List KeyRow) → AllBelow label front → AllByRecursion (λ (row : KeyRow). label ≤ row.0) back → last_before key label (front ++ back) ≡ last_of (filter (is_on key) front)
  last_before-parts key front back below from = ap last_of (before-parts key front back below from)

  after-all : (key : ℤ) (back : List KeyRow) → AllAbove label back → first_after key label back ≡ find (is_on key) back
  after-all key [] above = refl
  after-all key (row ∷ back) above =
      ap (λ b. cond (is_on key row && b) (Some row) (first_after key label back)) (lt-ltb label row.0 above.0)
      ∙ elim (is_on key row) as (λ b. cond (b && true) (Some row) (first_after key label back) ≡ cond b (Some row) (find (is_on key) back)) [ true ↦ refl | false ↦ after-all key back above.1 ]

  pub first_after-parts : (key : ℤ) (front back : List KeyRow) → AllByRecursion (λ (row : KeyRow). row.0 ≤ label) front → AllAbove label back → first_after key label (front ++ back) ≡ find (is_on key) back
  first_after-parts key [] back up_to above = after-all key back above
  first_after-parts key (row ∷ front) back up_to above =
      ap (λ b. cond (is_on key row && b) (Some row) (first_after key label (front ++ back))) (le-ltb label row.0 up_to.0)
      ∙ elim (is_on key row) as (λ b. cond (b && false) (Some row) (first_after key label (front ++ back)) ≡ find (is_on key) back)
      [ true ↦ first_after-parts key front back up_to.1 above | false ↦ first_after-parts key front back up_to.1 above ]

pub end-first : (key : ℤ) (rows : List KeyRow) → end_of key rows ≡ label_or_end (find (is_on key) rows)
end-first key [] = refl
end-first key (row ∷ rows) = elim (is_on key row) as (λ b. cond b row.0 (end_of key rows) ≡ label_or_end (cond b (Some row) (find (is_on key) rows))) [ true ↦ refl | false ↦ end-first key rows ]

-- the element at a place, and those after it
pub drop-at : {A : Type 0} (xs : List A) (place : ℕ) (x : A) → slice_get xs place ≡ Some x → drop place xs ≡ x ∷ drop (suc place) xs
drop-at [] place x there = absurd (cc)
drop-at (y ∷ ys) zero x there = let same : y ≡ x = cc in ap (λ z. z ∷ ys) same
drop-at (y ∷ ys) (suc place) x there = drop-at ys place x there

-- the label at a place lies between those beside it
module _ (last : ℕ) where
  pub label_before-below : (first : ℕ) (labels : List ℕ) (place label : ℕ) → AreApart 1 first last labels → slice_get labels place ≡ Some label → label_before first labels place < label
  label_before-below first [] place label apart there = absurd (cc)
  label_before-below first (next ∷ labels) zero label apart there = let same : next ≡ label = cc in omega (arith, apart.0)
  label_before-below first (next ∷ labels) (suc place) label apart there = label_before-below next labels place label apart.1 there

  pub label-after : (first : ℕ) (labels : List ℕ) (place label : ℕ) → AreApart 1 first last labels → slice_get labels place ≡ Some label → label < label_later last labels (suc place)
  label-after first [] place label apart there = absurd (cc)
  label-after first (next ∷ []) zero label apart there = let same : next ≡ label = cc in omega (arith, apart.1)
  label-after first (next ∷ other ∷ labels) zero label apart there = let same : next ≡ label = cc in omega (arith, apart.1.0)
  label-after first (next ∷ []) (suc place) label apart there = absurd (cc)
  label-after first (next ∷ other ∷ labels) (suc place) label apart there = label-after next (other ∷ labels) place label apart.1 there

-- the labels beside a place
pub beside : (first last : ℕ) (labels : List ℕ) (place : ℕ) → place ≤ length labels → AreApart 1 first last labels
    → (label_before first labels place < label_later last labels place) × (label_later last labels place ≤ last)
beside first last [] zero within apart = (omega arith, omega arith)
beside first last [] (suc place) within apart = absurd (omega arith)
beside first last (label ∷ labels) zero within apart = (omega (arith, apart.0), omega (arith, first_below_last last label labels apart.1))
beside first last (label ∷ labels) (suc place) within apart = beside label last labels place (omega arith) apart.1

module _ (labels : List ℕ) (rows : List Row) (place : ℕ) (same : length labels ≡ length rows) (apart : AreApart 1 0 label_limit labels) where
  abbrev pub front_rows : List KeyRow
  front_rows = labelled (take place labels) (take place rows)

  abbrev pub back_rows : List KeyRow
  back_rows = labelled (drop place labels) (drop place rows)

  abbrev pub later_rows : List KeyRow
  later_rows = labelled (drop (suc place) labels) (drop (suc place) rows)

  front_up_to : (label : ℕ) → label_before 0 labels place ≤ label → AllByRecursion (λ (row : KeyRow). row.0 ≤ label) front_rows
  front_up_to label before =
      all_weaker (λ (row : KeyRow). row.0 < suc label) (λ (row : KeyRow). row.0 ≤ label) front_rows (λ row below. omega arith) (front-below label_limit 0 labels rows place (suc label) apart (omega arith))

  -- the rows up to a label from the one before the place on, and those after it
  pub up_to-is : (label : ℕ) → label_before 0 labels place ≤ label → label < label_later label_limit labels place → up_to label (labelled labels rows) ≡ front_rows
  up_to-is label before after_it = ap (up_to label) (in_two labels rows place same) ∙ up_to-parts label front_rows back_rows (front_up_to label before) (back-above label_limit 0 labels rows place label apart after_it)

  pub after-is : (label : ℕ) → label_before 0 labels place ≤ label → label < label_later label_limit labels place → after label (labelled labels rows) ≡ back_rows
  after-is label before after_it = ap (after label) (in_two labels rows place same) ∙ after-parts label front_rows back_rows (front_up_to label before) (back-above label_limit 0 labels rows place label apart after_it)

  -- a row that is put in
  pub with_row-parts : (label : ℕ) (op : Op) → label_before 0 labels place ≤ label → label < label_later label_limit labels place → with_row label op (labelled labels rows) ≡ front_rows ++ (label, op) ∷ back_rows
  with_row-parts label op before after_it = ap (λ xs. xs ++ (label, op) ∷ after label (labelled labels rows)) (up_to-is label before after_it) ∙ ap (λ xs. front_rows ++ (label, op) ∷ xs) (after-is label before after_it)

  pub with_row-is : (label : ℕ) (row : Row) → label_before 0 labels place ≤ label → label < label_later label_limit labels place
      → with_row label row.op (labelled labels rows) ≡ labelled (insert labels place label) (insert rows place row)
  with_row-is label row before after_it = with_row-parts label row.op before after_it ∙ sym (with-inserted labels rows place label row same)

  pub fresh-is : (label : ℕ) → IsBetween labels place label → op_at label (labelled labels rows) ≡ None
  fresh-is label between =
      ap (op_at label) (in_two labels rows place same) ∙ lookup-none label front_rows back_rows
      (front-below label_limit 0 labels rows place label apart between.before) (back-above label_limit 0 labels rows place label apart between.after_it)

  -- the rows beside it on a key
  pub last-is : (label : ℕ) (key : ℤ) → IsBetween labels place label → last_before key label (labelled labels rows) ≡ last_of (filter (is_on key) front_rows)
  last-is label key between =
      ap (last_before key label) (in_two labels rows place same)
      ∙ last_before-parts label key front_rows back_rows (front-below label_limit 0 labels rows place label apart between.before)
      (all_weaker (λ (row : KeyRow). label < row.0) (λ (row : KeyRow). label ≤ row.0) back_rows (λ row above. omega arith) (back-above label_limit 0 labels rows place label apart between.after_it))

  pub next-is : (label : ℕ) (key : ℤ) → IsBetween labels place label → label_or_end (first_after key label (labelled labels rows)) ≡ end_of key back_rows
  next-is label key between =
      ap label_or_end (ap (first_after key label) (in_two labels rows place same)
      ∙ first_after-parts label key front_rows back_rows (front_up_to label (omega (arith, between.before))) (back-above label_limit 0 labels rows place label apart between.after_it))
      ∙ sym (end-first key back_rows)

  -- the row at a place
  module _ (label : ℕ) (row : Row) (label_there : slice_get labels place ≡ Some label) (row_there : slice_get rows place ≡ Some row) where
    below : AllBelow label front_rows
    below = front-below label_limit 0 labels rows place label apart (label_before-below label_limit 0 labels place label apart label_there)

    later : AllAbove label later_rows
    later = back-above label_limit 0 labels rows (suc place) label apart (label-after label_limit 0 labels place label apart label_there)

    pub at-parts : labelled labels rows ≡ front_rows ++ (label, row.op) ∷ later_rows
    at-parts =
        in_two labels rows place same ∙ ap (λ ls. front_rows ++ labelled ls (drop place rows)) (drop-at labels place label label_there)
        ∙ ap (λ rs. front_rows ++ labelled (label ∷ drop (suc place) labels) rs) (drop-at rows place row row_there)

    pub op-is : op_at label (labelled labels rows) ≡ Some row.op
    op-is = ap (op_at label) at-parts ∙ lookup-parts label front_rows later_rows row.op below

    pub removed-parts : labelled (remove labels place) (remove rows place) ≡ front_rows ++ later_rows
    removed-parts = labelled-append (take place labels) (drop (suc place) labels) (take place rows) (drop (suc place) rows) (length-fronts labels rows place same)

    pub without-is : without label (labelled labels rows) ≡ labelled (remove labels place) (remove rows place)
    without-is = ap (without label) at-parts ∙ without-parts label front_rows later_rows row.op below ∙ sym removed-parts

    pub last-at : (key : ℤ) → last_before key label (labelled labels rows) ≡ last_of (filter (is_on key) front_rows)
    last-at key =
        ap (last_before key label) at-parts
        ∙ last_before-parts label key front_rows ((label, row.op) ∷ later_rows) below (omega arith, all_weaker (λ (r : KeyRow). label < r.0) (λ (r : KeyRow). label ≤ r.0) later_rows (λ r above. omega arith) later)

    pub next-at : (key : ℤ) → label_or_end (first_after key label (labelled labels rows)) ≡ end_of key later_rows
    next-at key =
        ap label_or_end (ap (first_after key label) (at-parts ∙ sym (append_assoc front_rows ((label, row.op) ∷ []) later_rows))
        ∙ first_after-parts label key (front_rows ++ (label, row.op) ∷ []) later_rows up_to_it later) ∙ sym (end-first key later_rows) where
          up_to_it : AllByRecursion (λ (r : KeyRow). r.0 ≤ label) (front_rows ++ (label, row.op) ∷ [])
          up_to_it = more front_rows below where
            more : (rs : List KeyRow) → AllBelow label rs → AllByRecursion (λ (r : KeyRow). r.0 ≤ label) (rs ++ (label, row.op) ∷ [])
            more [] all = (omega arith, tt)
            more (r ∷ rs) all = (omega (arith, all.0), more rs all.1)

-- each label is below the last number
pub label-below : (last first : ℕ) (labels : List ℕ) (place label : ℕ) → AreApart 1 first last labels → slice_get labels place ≡ Some label → label < last
label-below last first [] place label apart there = absurd (cc)
label-below last first (next ∷ labels) zero label apart there = let same : next ≡ label = cc in omega (arith, first_below_last last next labels apart.1)
label-below last first (next ∷ labels) (suc place) label apart there = label-below last next labels place label apart.1 there

-- what is read before a place
pub before-read : (first : ℕ) (labels : List ℕ) (place label : ℕ) → slice_get labels place ≡ Some label → label_before first labels (suc place) ≡ label
before-read first [] place label read = absurd (cc)
before-read first (next ∷ labels) zero label read = cc
before-read first (next ∷ labels) (suc place) label read = before-read next labels place label read

pub before-is : (labels : List ℕ) (place label : ℕ) → 0 < place → slice_get labels (place - 1) ≡ Some label → label ≡ label_before 0 labels place
before-is labels zero label some read = absurd (omega arith)
before-is labels (suc place) label some read =
    sym (before-read 0 labels place label (subst (λ n. slice_get labels n ≡ Some label) (let less : suc place - 1 ≡ place = omega arith in less) read))

pub pairs-after : (labels : List ℕ) (lifetimes : List (Lifetime (ℤ × ℤ))) (place label : ℕ) → 0 < place → slice_get labels (place - 1) ≡ Some label
    → in_order pair_before (items_at label lifetimes) ≡ pairs_at labels lifetimes place
pairs-after labels lifetimes zero label some read = absurd (omega arith)
pairs-after labels lifetimes (suc place) label some read = ap (λ l. in_order pair_before (items_at l lifetimes)) (before-is labels (suc place) label some read)

pub value-after : (labels : List ℕ) (index : List KeyRow) (place label : ℕ) (key : ℤ) → 0 < place → slice_get labels (place - 1) ≡ Some label
    → option_and_then (λ row. value_put row.1) (last_up_to key label index) ≡ value_at labels index place key
value-after labels index zero label key some read = absurd (omega arith)
value-after labels index (suc place) label key some read = ap (λ l. option_and_then (λ row. value_put row.1) (last_up_to key l index)) (before-is labels (suc place) label some read)

pub length-labelled : (labels : List ℕ) (rows : List Row) → length (labelled labels rows) ≤ length rows
length-labelled [] rows = omega arith
length-labelled (label ∷ labels) [] = omega arith
length-labelled (label ∷ labels) (row ∷ rows) = omega (arith, length-labelled labels rows)
