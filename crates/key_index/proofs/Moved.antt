-- Rows that are relabelled stay indexed.
use Rattle.std.proofs.Common.{◌≡◌, ℕ, ℤ, zero, suc, ◌+◌, ◌<◌, ◌≤◌, true, false, ◌||◌, cond, Some, List, [], ◌∷◌, ◌++◌, length, map, take, drop, get_or, slice_get, set, inl, inr, refl, sym, subst, ap, ◌∙◌, arith, add-one}
use Rattle.std.specs.Prelude.{◌==◌, nat_lt}
use Rattle.std.specs.List.{AllByRecursion, filter}
use Rattle.std.proofs.lemmas.Int.{ints}
use Rattle.std.proofs.lemmas.Bool.{cases_lt, ltb-true, ne_eqb}
use Rattle.std.proofs.lemmas.Bool.Decides.{nat_tests, Decides-int_eq, Decides-eqb}
use Rattle.std.proofs.lemmas.List.{length-map}
use Rattle.retro_base.specs.declared.kind.Kind.TheVariants.{Dict}
use Rattle.retro_base.specs.Kind.{kind_of}
use Rattle.key_index.specs.KeyRows.{KeyRow, LabelsRise, key_of, is_on}
use Rattle.key_index.specs.Ordered.{AreByKey, IsIndexed, pair_before, stands_before}
use Rattle.key_index.specs.Relabelled.{Rise, counterpart, is_in, relabelled, HoldsLabels}
use Rattle.key_index.proofs.Lists.{all-map, all_both, all_filter, all_unfiltered}

-- a label is found where it stands
all_at : (P : ℕ → Type 0) (xs : List ℕ) (i d : ℕ) → AllByRecursion P xs → i < length xs → P (get_or xs i d)
all_at P [] i d all within = absurd (omega arith)
all_at P (x ∷ xs) zero d all within = all.0
all_at P (x ∷ xs) (suc i) d all within = all_at P xs i d all.1 (omega arith)

pub never_falls : (xs : List ℕ) → Rise xs → (i j : ℕ) → i ≤ j → j < length xs → get_or xs i 0 ≤ get_or xs j 0
never_falls [] rise i j order within = absurd (omega arith)
never_falls (x ∷ xs) rise zero zero order within = omega arith
never_falls (x ∷ xs) rise zero (suc j) order within = omega (arith, all_at (λ y. x < y) xs j 0 rise.0 (omega arith))
never_falls (x ∷ xs) rise (suc i) zero order within = absurd (omega arith)
never_falls (x ∷ xs) rise (suc i) (suc j) order within = never_falls xs rise.1 i j (omega arith) (omega arith)

pub counterpart_at : (former fresh : List ℕ) (label i : ℕ) → Rise former → length fresh ≡ length former → i < length former → get_or former i 0 ≡ label → get_or fresh i 0 ≡ counterpart former fresh label
counterpart_at [] fresh label i rise as_many within there = absurd (omega arith)
counterpart_at (old ∷ former) [] label i rise as_many within there = absurd (omega arith)
counterpart_at (old ∷ former) (new ∷ fresh) label zero rise as_many within there =
    sym (ap (λ b. cond b new (counterpart former fresh label)) ((Decides-eqb old label).1 there))
counterpart_at (old ∷ former) (new ∷ fresh) label (suc i) rise as_many within there =
    let less = all_at (λ y. old < y) former i 0 rise.0 (omega arith) in
    counterpart_at former fresh label i rise.1 (omega (arith, as_many)) (omega arith) there
    ∙ sym (ap (λ b. cond b new (counterpart former fresh label)) (ne_eqb old label (λ same. omega (arith, less, same, there))))

none_in : (xs : List ℕ) (label : ℕ) → ((k : ℕ) → k < length xs → (get_or xs k 0 == label) ≡ false) → is_in xs label ≡ false
none_in [] label other = refl
none_in (x ∷ xs) label other = ap (λ b. b || is_in xs label) (other 0 (omega arith)) ∙ none_in xs label (λ k within. other (suc k) (omega arith))

pub not_in : (xs : List ℕ) (label i : ℕ) → ((k : ℕ) → k < i → get_or xs k 0 < label) → ((k : ℕ) → i ≤ k → k < length xs → label < get_or xs k 0) → is_in xs label ≡ true → ⊥
not_in xs label i below above there =
    let gone = none_in xs label (λ k within. elim (cases_lt k i) [
      | inl less ↦ ne_eqb (get_or xs k 0) label (λ same. omega (arith, below k less, same))
      | inr more ↦ ne_eqb (get_or xs k 0) label (λ same. omega (arith, above k more within, same))
    ]) in
    let wrong : true ≡ false = sym there ∙ gone in cc

-- counterparts rise with their labels
above_low : (former fresh : List ℕ) (label low : ℕ) → length fresh ≡ length former → is_in former label ≡ true → AllByRecursion (λ y. low < y) fresh → low < counterpart former fresh label
above_low [] fresh label low as_many there all = absurd (cc)
above_low (old ∷ former) [] label low as_many there all = absurd (omega arith)
above_low (old ∷ former) (new ∷ fresh) label low as_many there all =
    elim (old == label) as (λ b. (b || is_in former label) ≡ true → low < cond b new (counterpart former fresh label)) [
      | true ↦ λ found. all.0
      | false ↦ λ found. above_low former fresh label low (omega (arith, as_many)) found all.1
    ] there

above_first : (xs : List ℕ) (label low : ℕ) → AllByRecursion (λ y. low < y) xs → is_in xs label ≡ true → low < label
above_first [] label low all there = absurd (cc)
above_first (x ∷ xs) label low all there = elim (x == label) as (λ b. (x == label) ≡ b → (b || is_in xs label) ≡ true → low < label) [
  | true ↦ λ same found. omega (arith, (Decides-eqb x label).0 same, all.0)
  | false ↦ λ other found. above_first xs label low all.1 found
] refl there

counterparts_rise : (former fresh : List ℕ) → Rise former → Rise fresh → length fresh ≡ length former → (l m : ℕ) → is_in former l ≡ true → is_in former m ≡ true → l < m
    → counterpart former fresh l < counterpart former fresh m
counterparts_rise [] fresh rise rise_fresh as_many l m l_in m_in less = absurd (cc)
counterparts_rise (old ∷ former) [] rise rise_fresh as_many l m l_in m_in less = absurd (omega arith)
counterparts_rise (old ∷ former) (new ∷ fresh) rise rise_fresh as_many l m l_in m_in less =
    elim (old == l) as (λ b. (old == l) ≡ b → (b || is_in former l) ≡ true → cond b new (counterpart former fresh l) < counterpart (old ∷ former) (new ∷ fresh) m) [
      | true ↦ λ same found. elim (old == m) as (λ b. (old == m) ≡ b → (b || is_in former m) ≡ true → new < cond b new (counterpart former fresh m)) [
        | true ↦ λ also again. absurd (omega (arith, (Decides-eqb old l).0 same, (Decides-eqb old m).0 also, less))
        | false ↦ λ other again. above_low former fresh m new (omega (arith, as_many)) again rise_fresh.0
      ] refl m_in
      | false ↦ λ other found. elim (old == m) as (λ b. (old == m) ≡ b → (b || is_in former m) ≡ true → counterpart former fresh l < cond b new (counterpart former fresh m)) [
        | true ↦ λ same again. absurd (omega (arith, above_first former l old rise.0 found, (Decides-eqb old m).0 same, less))
        | false ↦ λ also again. counterparts_rise former fresh rise.1 rise_fresh.1 (omega (arith, as_many)) l m found again less
      ] refl m_in
    ] refl l_in

-- what holds of the rows of each key holds of all
each_key : (P : KeyRow → Type 0) (rows : List KeyRow) → ((key : ℤ) → AllByRecursion (λ row. is_on key row ≡ true → P row) rows) → AllByRecursion P rows
each_key P [] all = tt
each_key P (row ∷ rows) all = ((all (key_of row.1)).0 ((Decides-int_eq (key_of row.1) (key_of row.1)).1 refl), each_key P rows (λ key. (all key).1))

pub holds_by_key : (labels : List ℕ) (rows by_key : List KeyRow) → IsIndexed rows by_key → HoldsLabels labels rows → HoldsLabels labels by_key
holds_by_key labels rows by_key indexed all =
    each_key (λ (row : KeyRow). is_in labels row.0 ≡ true) by_key
    (λ key. all_unfiltered (is_on key) (λ (row : KeyRow). is_in labels row.0 ≡ true) by_key
    (subst (AllByRecursion (λ (row : KeyRow). is_in labels row.0 ≡ true)) (sym (indexed.same key)) (all_filter (is_on key) (λ (row : KeyRow). is_in labels row.0 ≡ true) rows all)))

pair_by_key : (k : ℤ) (l : ℕ) (j : ℤ) (m l' m' : ℕ) → pair_before k l j m ≡ true → nat_lt l m ≡ false → pair_before k l' j m' ≡ true
pair_by_key k l j m l' m' before failing = grind (arith, ints, nat_tests)

pair_by_label : (k : ℤ) (l : ℕ) (j : ℤ) (m l' m' : ℕ) → pair_before k l j m ≡ true → l' < m' → pair_before k l' j m' ≡ true
pair_by_label k l j m l' m' before less = grind (arith, ints, nat_tests)

pair_moved : (k : ℤ) (l : ℕ) (j : ℤ) (m l' m' : ℕ) → pair_before k l j m ≡ true → (l < m → l' < m') → pair_before k l' j m' ≡ true
pair_moved k l j m l' m' before moved = elim (nat_lt l m) as (λ b. nat_lt l m ≡ b → pair_before k l' j m' ≡ true) [
  | true ↦ λ less. pair_by_label k l j m l' m' before (moved (ltb-true l m less))
  | false ↦ λ failing. pair_by_key k l j m l' m' before failing
] refl

module _ (former fresh : List ℕ) (rise : Rise former) (rise_fresh : Rise fresh) (as_many : length fresh ≡ length former) where
  abbrev moved : KeyRow → KeyRow
  moved row = (counterpart former fresh row.0, row.1)

  rise_moved : (rows : List KeyRow) → LabelsRise rows → HoldsLabels former rows → LabelsRise (map moved rows)
  rise_moved [] order all = tt
  rise_moved (row ∷ rows) order all = (
    all-map (λ (later : KeyRow). counterpart former fresh row.0 < later.0) moved rows
        (all_both (λ (later : KeyRow). row.0 < later.0) (λ (later : KeyRow). is_in former later.0 ≡ true) (λ (later : KeyRow). counterpart former fresh row.0 < counterpart former fresh later.0) rows
        (λ later less there. counterparts_rise former fresh rise rise_fresh as_many row.0 later.0 all.0 there less) order.0 all.1),
    rise_moved rows order.1 all.1,
  )

  by_key_moved : (rows : List KeyRow) → AreByKey rows → HoldsLabels former rows → AreByKey (map moved rows)
  by_key_moved [] order all = tt
  by_key_moved (row ∷ rows) order all = (
    all-map (λ (later : KeyRow). stands_before (moved row) later ≡ true) moved rows
        (all_both (λ (later : KeyRow). stands_before row later ≡ true) (λ (later : KeyRow). is_in former later.0 ≡ true) (λ (later : KeyRow). stands_before (moved row) (moved later) ≡ true) rows
        (λ later before there. pair_moved (key_of row.1) row.0 (key_of later.1) later.0 (counterpart former fresh row.0) (counterpart former fresh later.0) before
        (counterparts_rise former fresh rise rise_fresh as_many row.0 later.0 all.0 there)) order.0 all.1),
    by_key_moved rows order.1 all.1,
  )

  filter_moved : (key : ℤ) (rows : List KeyRow) → filter (is_on key) (map moved rows) ≡ map moved (filter (is_on key) rows)
  filter_moved key [] = refl
  filter_moved key (row ∷ rows) = elim (is_on key row) as (λ b. cond b (moved row ∷ filter (is_on key) (map moved rows)) (filter (is_on key) (map moved rows))
      ≡ map moved (cond b (row ∷ filter (is_on key) rows) (filter (is_on key) rows))) [
        | true ↦ ap (λ found. moved row ∷ found) (filter_moved key rows)
        | false ↦ filter_moved key rows
      ]

  dict_moved : (rows : List KeyRow) → AllByRecursion (λ (row : KeyRow). kind_of row.1 ≡ Dict) rows → AllByRecursion (λ (row : KeyRow). kind_of row.1 ≡ Dict) (map moved rows)
  dict_moved rows all = all-map (λ (row : KeyRow). kind_of row.1 ≡ Dict) moved rows all

  pub relabelled_indexed : (rows by_key : List KeyRow) → IsIndexed rows by_key → HoldsLabels former rows → IsIndexed (relabelled former fresh rows) (relabelled former fresh by_key)
  relabelled_indexed rows by_key indexed all = record {
    listed = record { rising = rise_moved rows indexed.listed.rising all; of_dict = dict_moved rows indexed.listed.of_dict };
    ordered = by_key_moved by_key indexed.ordered (holds_by_key former rows by_key indexed all);
    as_many = length-map by_key moved ∙ indexed.as_many ∙ sym (length-map rows moved);
    same = λ key. filter_moved key by_key ∙ ap (map moved) (indexed.same key) ∙ sym (filter_moved key rows);
  }

-- so many first rows are relabelled, and then one more
module _ (former fresh : List ℕ) where
  abbrev pub partly : ℕ → List KeyRow → List KeyRow
  partly place rows = relabelled former fresh (take place rows) ++ drop place rows

  pub partly-get : (place : ℕ) (rows : List KeyRow) → place < length rows → slice_get (partly place rows) place ≡ slice_get rows place
  partly-get place [] within = absurd (omega arith)
  partly-get zero (row ∷ rows) within = refl
  partly-get (suc place) (row ∷ rows) within = partly-get place rows (omega arith)

  pub partly-more : (place : ℕ) (rows : List KeyRow) (row : KeyRow) → slice_get rows place ≡ Some row → set (partly place rows) place (counterpart former fresh row.0, row.1) ≡ partly (place + 1) rows
  partly-more place rows row there = more place rows there ∙ ap (λ n. partly n rows) (sym (add-one place)) where
    more : (place : ℕ) (rows : List KeyRow) → slice_get rows place ≡ Some row → set (partly place rows) place (counterpart former fresh row.0, row.1) ≡ partly (suc place) rows
    more place [] there = absurd (cc)
    more zero (first ∷ rows) there = let one : row ≡ first = cc in ap (λ (r : KeyRow). (counterpart former fresh r.0, r.1) ∷ rows) one
    more (suc place) (first ∷ rows) there = ap (λ found. (counterpart former fresh first.0, first.1) ∷ found) (more place rows there)
