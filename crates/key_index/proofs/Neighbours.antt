-- The rows next to a place in the order of keys are the last row on its key up to its label, and the first one after it.
use Rattle.std.proofs.Common.{◌≡◌, ℕ, ℤ, zero, suc, ◌-◌, ◌<◌, ◌≤◌, Bool, true, false, not, ◌&&◌, ◌||◌, cond, Option, Some, None, List, [], ◌∷◌, length, take, drop, slice_get, refl, sym, ap, ◌∙◌, arith}
use Rattle.std.specs.Prelude.{int_lt, nat_le, nat_lt, ◌==◌}
use Rattle.std.specs.List.{AllByRecursion, filter}
use Rattle.std.specs.Option.{option_or, option_and_then}
use Rattle.std.specs.Ordering.{int_eq}
use Rattle.std.proofs.lemmas.Int.{ints}
use Rattle.std.proofs.lemmas.Bool.{ne_eqb}
use Rattle.std.proofs.lemmas.Bool.Decides.{nat_tests}
use Rattle.retro_base.specs.OrderLaws.{all_weaker}
use Rattle.key_index.specs.KeyRows.{KeyRow, key_of, is_on, last_of, last_before, first_after}
use Rattle.key_index.specs.declared.rows_beside.RowsBeside.{RowsBeside}
use Rattle.key_index.specs.RowsBeside.{last_up_to, beside, around}
use Rattle.key_index.specs.Ordered.{AreByKey, pair_before, stands_before, reaches, if_on}
use Rattle.key_index.proofs.Lists.{filter-yes, filter-no, none_pass, filter_passes, filter_both, filter-same, first_of, find_is, settled, all_but_last, take_less, first_at}
use Rattle.key_index.proofs.InOrder.{by_key_filter, lt_is_not_le, pair_less, pair_below, pair_comes_before, pair_not_itself}

-- a test of labels on a key, where rows on lesser keys pass and those on greater ones do not
abbrev pair_in : ℤ → Bool → ℤ → Bool
pair_in k within key = int_lt k key || (int_eq k key && within)

one_or_other : (k key : ℤ) → int_eq k key ≡ true → int_lt k key ≡ false
one_or_other k key same = grind (arith, ints, nat_tests)

next_on : (k : ℤ) (l : ℕ) (j : ℤ) (m : ℕ) (key : ℤ) (within : Bool) → int_eq k key ≡ true → pair_before k l j m ≡ true → pair_in j within key ≡ true → int_eq j key ≡ true
next_on k l j m key within on order up = grind (arith, ints, nat_tests)

later_off : (k : ℤ) (l : ℕ) (j : ℤ) (m : ℕ) (key : ℤ) (within : Bool) → int_eq k key ≡ false → pair_in k within key ≡ false → pair_before k l j m ≡ true → int_eq j key ≡ false
later_off k l j m key within off past order = grind (arith, ints, nat_tests)

pub beside_is : {a b c d : Option KeyRow} → a ≡ b → c ≡ d → ◌≡◌ {A = RowsBeside} (record { before = a; after = c }) (record { before = b; after = d })
beside_is e f = rw (e, f) refl

module _ (key : ℤ) (within : ℕ → Bool) where
  abbrev reached : KeyRow → Bool
  reached row = pair_in (key_of row.1) (within row.0) key

  abbrev passed : KeyRow → Bool
  passed row = not (reached row)

  front_step : (row : KeyRow) (rest front : List KeyRow) (below on holds : Bool) → is_on key row ≡ on → (on ≡ true → below ≡ false) → rest ≡ filter (is_on key) front
      → cond (on && holds) (row ∷ rest) rest ≡ filter (is_on key) (cond (below || (on && holds)) (row ∷ front) front)
  front_step row rest front true true holds here apart same = absurd (let wrong : true ≡ false = apart refl in cc)
  front_step row rest front true false holds here apart same = same ∙ sym (filter-no (is_on key) row front here)
  front_step row rest front false false holds here apart same = same
  front_step row rest front false true true here apart same = ap (λ rows. row ∷ rows) same ∙ sym (filter-yes (is_on key) row front here)
  front_step row rest front false true false here apart same = same

  back_step : (row : KeyRow) (rest back : List KeyRow) (below on holds : Bool) → is_on key row ≡ on → (on ≡ true → below ≡ false) → rest ≡ filter (is_on key) back
      → cond (on && not holds) (row ∷ rest) rest ≡ filter (is_on key) (cond (not (below || (on && holds))) (row ∷ back) back)
  back_step row rest back true true holds here apart same = absurd (let wrong : true ≡ false = apart refl in cc)
  back_step row rest back true false holds here apart same = same
  back_step row rest back false false holds here apart same = same ∙ sym (filter-no (is_on key) row back here)
  back_step row rest back false true true here apart same = same
  back_step row rest back false true false here apart same = ap (λ rows. row ∷ rows) same ∙ sym (filter-yes (is_on key) row back here)

  -- the rows on the key that pass are those of the rows that pass
  pub on_front : (rows : List KeyRow) → filter (λ row. is_on key row && within row.0) rows ≡ filter (is_on key) (filter reached rows)
  on_front [] = refl
  on_front (row ∷ rows) =
      front_step row _ (filter reached rows) (int_lt (key_of row.1) key) (is_on key row) (within row.0) refl (one_or_other (key_of row.1) key) (on_front rows)

  pub on_back : (rows : List KeyRow) → filter (λ row. is_on key row && not (within row.0)) rows ≡ filter (is_on key) (filter passed rows)
  on_back [] = refl
  on_back (row ∷ rows) =
      back_step row _ (filter passed rows) (int_lt (key_of row.1) key) (is_on key row) (within row.0) refl (one_or_other (key_of row.1) key) (on_back rows)

  -- of rows that pass, the last on the key is the last of all, if that is on the key
  last_on : (rows : List KeyRow) → AreByKey rows → AllByRecursion (λ row. reached row ≡ true) rows → last_of (filter (is_on key) rows) ≡ option_and_then (if_on key) (last_of rows)
  last_on [] order all = refl
  last_on (row ∷ []) order all = elim (is_on key row) as (λ b. last_of (cond b (row ∷ []) []) ≡ cond b (Some row) None) [ true ↦ refl | false ↦ refl ]
  last_on (row ∷ next ∷ rows) order all =
      elim (is_on key row) as (λ b. is_on key row ≡ b → last_of (cond b (row ∷ filter (is_on key) (next ∷ rows)) (filter (is_on key) (next ∷ rows))) ≡ option_and_then (if_on key) (last_of (row ∷ next ∷ rows))) [
        | true ↦ λ on.
            let next_is_on = next_on (key_of row.1) row.0 (key_of next.1) next.0 key (within next.0) on order.0.0 all.1.0 in
            ap (λ found. option_or (last_of found) (Some row)) (filter-yes (is_on key) next rows next_is_on)
            ∙ settled (last_of (filter (is_on key) rows)) next row
            ∙ ap last_of (sym (filter-yes (is_on key) next rows next_is_on))
            ∙ last_on (next ∷ rows) order.1 all.1
            ∙ ap (option_and_then (if_on key)) (sym (settled (last_of rows) next row))
        | false ↦ λ off. last_on (next ∷ rows) order.1 all.1 ∙ ap (option_and_then (if_on key)) (sym (settled (last_of rows) next row))
      ] refl

  -- of those that do not, the first on the key is the first of all, if that is on the key
  first_on : (rows : List KeyRow) → AreByKey rows → AllByRecursion (λ row. passed row ≡ true) rows → first_of (filter (is_on key) rows) ≡ option_and_then (if_on key) (first_of rows)
  first_on [] order all = refl
  first_on (row ∷ rows) order all =
      elim (is_on key row) as (λ b. is_on key row ≡ b → first_of (cond b (row ∷ filter (is_on key) rows) (filter (is_on key) rows)) ≡ cond b (Some row) None) [
        | true ↦ λ on. refl
        | false ↦ λ off. ap first_of (none_pass (is_on key) rows
            (all_weaker (λ (later : KeyRow). stands_before row later ≡ true) (λ (later : KeyRow). is_on key later ≡ false) rows
            (λ later before. later_off (key_of row.1) row.0 (key_of later.1) later.0 key (within row.0) off (turned (reached row) all.0) before) order.0))
      ] refl where
        turned : (b : Bool) → not b ≡ true → b ≡ false
        turned true h = absurd (cc)
        turned false h = refl

  -- what stands next to a place
  pub last_found : (rows : List KeyRow) (count : ℕ) → AreByKey rows → take count rows ≡ filter reached rows
      → option_and_then (if_on key) (last_of (take count rows)) ≡ last_of (filter (λ row. is_on key row && within row.0) rows)
  last_found rows count order front =
      sym (ap last_of (on_front rows) ∙ last_on (filter reached rows) (by_key_filter reached rows order) (filter_passes reached rows) ∙ ap (λ found. option_and_then (if_on key) (last_of found)) (sym front))

  pub next_found : (rows : List KeyRow) (count : ℕ) → AreByKey rows → drop count rows ≡ filter passed rows
      → option_and_then (if_on key) (slice_get rows count) ≡ first_of (filter (λ row. is_on key row && not (within row.0)) rows)
  next_found rows count order back =
      ap (option_and_then (if_on key)) (first_at rows count)
      ∙ sym (ap first_of (on_back rows) ∙ first_on (filter passed rows) (by_key_filter passed rows order) (filter_passes passed rows) ∙ ap (λ found. option_and_then (if_on key) (first_of found)) (sym back))

module _ (key : ℤ) (label : ℕ) where
  abbrev lesser : KeyRow → Bool
  lesser row = pair_before (key_of row.1) row.0 key label

  pub last_is : (rows : List KeyRow) (count : ℕ) → AreByKey rows → take count rows ≡ filter (reaches key label) rows
      → option_and_then (if_on key) (last_of (take count rows)) ≡ last_up_to key label rows
  last_is rows count order front = last_found key (λ l. nat_le l label) rows count order front

  pub next_is : (rows : List KeyRow) (count : ℕ) → AreByKey rows → drop count rows ≡ filter (λ row. not (reaches key label row)) rows
      → option_and_then (if_on key) (slice_get rows count) ≡ first_after key label rows
  next_is rows count order back =
      next_found key (λ l. nat_le l label) rows count order back
      ∙ ap first_of (filter-same (λ row. is_on key row && not (nat_le row.0 label)) (λ row. is_on key row && nat_lt label row.0) (λ row. ap (λ b. is_on key row && b) (sym (lt_is_not_le label row.0))) rows)
      ∙ sym (find_is (λ row. is_on key row && nat_lt label row.0) rows)

  up_to_it_too : (row : KeyRow) → lesser row ≡ (reaches key label row && lesser row)
  up_to_it_too row = elim (lesser row) as (λ b. lesser row ≡ b → b ≡ (reaches key label row && b)) [
    | true ↦ λ less. ap (λ b. b && true) (sym (pair_less (key_of row.1) row.0 key label less))
    | false ↦ λ more. sym (never (reaches key label row))
  ] refl where
    never : (b : Bool) → (b && false) ≡ false
    never true = refl
    never false = refl

  lesser_are : (rows : List KeyRow) → filter lesser rows ≡ filter lesser (filter (reaches key label) rows)
  lesser_are rows = filter-same lesser (λ row. reaches key label row && lesser row) up_to_it_too rows ∙ filter_both (reaches key label) lesser rows

  -- of rows up to a label on a key, all but the last stand before it
  all_but_it : (rows : List KeyRow) → AreByKey rows → AllByRecursion (λ row. reaches key label row ≡ true) rows → (row : KeyRow) → last_of rows ≡ Some row → is_on key row ≡ true → row.0 ≡ label
      → filter lesser rows ≡ all_but_last rows
  all_but_it [] order all row last on here = absurd (cc)
  all_but_it (first ∷ []) order all row last on here = let one : first ≡ row = cc in filter-no lesser first [] (rw one (pair_not_itself (key_of row.1) row.0 key label on here))
  all_but_it (first ∷ next ∷ rows) order all row last on here =
      filter-yes lesser first (next ∷ rows) (pair_comes_before (key_of first.1) first.0 (key_of next.1) next.0 key label order.0.0 all.1.0)
      ∙ ap (λ found. first ∷ found) (all_but_it (next ∷ rows) order.1 all.1 row (sym (settled (last_of rows) next first) ∙ last) on here)

  -- and so does the last, if it does not stand there
  all_of_them : (rows : List KeyRow) → AreByKey rows → AllByRecursion (λ row. reaches key label row ≡ true) rows → ((row : KeyRow) → option_and_then (if_on key) (last_of rows) ≡ Some row → row.0 ≡ label → ⊥)
      → filter lesser rows ≡ rows
  all_of_them [] order all other = refl
  all_of_them (first ∷ []) order all other =
      filter-yes lesser first [] (pair_below (key_of first.1) first.0 key label all.0 (λ on. ne_eqb first.0 label (other first (ap (λ b. cond b (Some first) None) on))))
  all_of_them (first ∷ next ∷ rows) order all other =
      filter-yes lesser first (next ∷ rows) (pair_comes_before (key_of first.1) first.0 (key_of next.1) next.0 key label order.0.0 all.1.0)
      ∙ ap (λ found. first ∷ found) (all_of_them (next ∷ rows) order.1 all.1 (λ row last. other row (ap (option_and_then (if_on key)) (settled (last_of rows) next first) ∙ last)))

  on_it : (o : Option KeyRow) (row : KeyRow) → option_and_then (if_on key) o ≡ Some row → (o ≡ Some row) × (is_on key row ≡ true)
  on_it None row is = absurd (cc)
  on_it (Some r) row is = elim (is_on key r) as (λ b. is_on key r ≡ b → cond b (Some r) None ≡ Some row → (Some r ≡ Some row) × (is_on key row ≡ true)) [
    | true ↦ λ on e. let one : r ≡ row = cc in (e, ap (is_on key) (sym one) ∙ on)
    | false ↦ λ off e. absurd (cc)
  ] refl is

  pub some_stand : (rows : List KeyRow) (count : ℕ) (row : KeyRow) → option_and_then (if_on key) (last_of (take count rows)) ≡ Some row → 0 < count
  some_stand rows zero row last = absurd (cc)
  some_stand rows (suc n) row last = omega arith

  module _ (rows : List KeyRow) (count : ℕ) (order : AreByKey rows) (front : take count rows ≡ filter (reaches key label) rows) where
    -- the last one stands at the label
    pub before_it : count ≤ length rows → (row : KeyRow) → option_and_then (if_on key) (last_of (take count rows)) ≡ Some row → row.0 ≡ label
        → option_and_then (if_on key) (last_of (take (count - 1) rows)) ≡ last_before key label rows
    before_it within row last here =
        let it = on_it (last_of (take count rows)) row last in
        last_found key (λ l. nat_lt l label) rows (count - 1) order
        (take_less rows count within ∙ ap all_but_last front
        ∙ sym (lesser_are rows
        ∙ all_but_it (filter (reaches key label) rows) (by_key_filter (reaches key label) rows order) (filter_passes (reaches key label) rows) row (ap last_of (sym front) ∙ it.0) it.1 here))

    -- it does not
    pub before_none : ((row : KeyRow) → option_and_then (if_on key) (last_of (take count rows)) ≡ Some row → row.0 ≡ label → ⊥)
        → option_and_then (if_on key) (last_of (take count rows)) ≡ last_before key label rows
    before_none other =
        last_found key (λ l. nat_lt l label) rows count order
        (front
        ∙ sym (lesser_are rows
        ∙ all_of_them (filter (reaches key label) rows) (by_key_filter (reaches key label) rows order) (filter_passes (reaches key label) rows)
        (λ row last. other row (ap (λ found. option_and_then (if_on key) (last_of found)) front ∙ last))))

-- the rows of a key decide what stands beside a label on it
module _ (key : ℤ) (rows by_key : List KeyRow) (same : filter (is_on key) by_key ≡ filter (is_on key) rows) where
  pub same_that : (test : KeyRow → Bool) → filter (λ row. is_on key row && test row) by_key ≡ filter (λ row. is_on key row && test row) rows
  same_that test = filter_both (is_on key) test by_key ∙ ap (filter test) same ∙ sym (filter_both (is_on key) test rows)

  pub same_up_to : (label : ℕ) → last_up_to key label by_key ≡ last_up_to key label rows
  same_up_to label = ap last_of (same_that (λ row. nat_le row.0 label))

  pub same_after : (label : ℕ) → first_after key label by_key ≡ first_after key label rows
  same_after label =
      find_is (λ row. is_on key row && nat_lt label row.0) by_key ∙ ap first_of (same_that (λ row. nat_lt label row.0)) ∙ sym (find_is (λ row. is_on key row && nat_lt label row.0) rows)

  pub same_beside : (label : ℕ) → beside key label by_key ≡ beside key label rows
  same_beside label = beside_is (ap last_of (same_that (λ row. nat_lt row.0 label))) (same_after label)

  pub same_around : (label : ℕ) → around key label by_key ≡ around key label rows
  same_around label = beside_is (same_up_to label) (same_after label)

-- where no row has the label, those up to it stand below it
pub around_fresh : (key : ℤ) (label : ℕ) (rows : List KeyRow) → AllByRecursion (λ (row : KeyRow). (row.0 == label) ≡ false) rows → around key label rows ≡ beside key label rows
around_fresh key label rows fresh = beside_is (ap last_of (same rows fresh)) refl where
  lesser_too : (m : ℕ) → (m == label) ≡ false → nat_le m label ≡ nat_lt m label
  lesser_too m other = grind (arith, nat_tests)

  same : (rows : List KeyRow) → AllByRecursion (λ (row : KeyRow). (row.0 == label) ≡ false) rows
      → filter (λ row. is_on key row && nat_le row.0 label) rows ≡ filter (λ row. is_on key row && nat_lt row.0 label) rows
  same [] fresh = refl
  same (row ∷ rows) fresh =
      ap (λ b. cond (is_on key row && b) (row ∷ filter (λ r. is_on key r && nat_le r.0 label) rows) (filter (λ r. is_on key r && nat_le r.0 label) rows)) (lesser_too row.0 fresh.0)
      ∙ ap (λ found. cond (is_on key row && nat_lt row.0 label) (row ∷ found) found) (same rows fresh.1)
