-- Rows stay indexed with one more.
use Rattle.std.proofs.Common.{◌≡◌, ℕ, ℤ, ◌<◌, Bool, true, false, not, cond, None, Some, List, [], ◌∷◌, ◌++◌, take, drop, refl, sym, subst, ap, ◌∙◌, arith}
use Rattle.std.specs.Prelude.{nat_le, nat_lt, ◌&&◌, ◌==◌}
use Rattle.std.specs.List.{AllByRecursion, filter}
use Rattle.std.proofs.lemmas.Int.{ints}
use Rattle.std.proofs.lemmas.Bool.Decides.{nat_tests, Decides-int_eq}
use Rattle.std.proofs.lemmas.List.{length-append, take-append-drop}
use Rattle.std.proofs.lemmas.List.Elements.{filter-append}
use Rattle.std.proofs.lemmas.List.Filters.{length-filter_both}
use Rattle.retro_base.specs.declared.kind.Kind.TheVariants.{Dict}
use Rattle.retro_base.specs.declared.op.Op.{Op}
use Rattle.retro_base.specs.Kind.{kind_of}
use Rattle.retro_base.specs.OrderLaws.{all_weaker}
use Rattle.key_index.specs.KeyRows.{KeyRow, key_of, is_on, op_at, up_to, behind, with_row}
use Rattle.key_index.specs.Ordered.{IsIndexed, pair_before, pair_up_to, stands_before, reaches}
use Rattle.key_index.proofs.Lists.{filter_either, filter-same, all-append, all_both, all_filter, all_unfiltered, filter_passes, filter-no}
use Rattle.key_index.proofs.InOrder.{by_key_filter, rise_filter, rise_around, by_key_around, parted, lt_is_not_le, pair_below}
use Rattle.key_index.proofs.Neighbours.{on_front, on_back, same_that}

-- a label that no row has
pub none_has : (label : ℕ) (rows : List KeyRow) → op_at label rows ≡ None → AllByRecursion (λ (row : KeyRow). (row.0 == label) ≡ false) rows
none_has label [] fresh = tt
none_has label (row ∷ rows) fresh =
    elim (row.0 == label) as (λ b. (row.0 == label) ≡ b → cond b (Some row.1) (op_at label rows) ≡ None → AllByRecursion (λ (r : KeyRow). (r.0 == label) ≡ false) (row ∷ rows)) [
      | true ↦ λ same e. absurd (cc)
      | false ↦ λ other e. (other, none_has label rows e)
    ] refl fresh

below : (m label : ℕ) → nat_le m label ≡ true → (m == label) ≡ false → m < label
below m label up other = grind (arith, nat_tests)

above : (m label : ℕ) → nat_lt label m ≡ true → label < m
above m label past = grind (arith, nat_tests)

pair_above : (k : ℤ) (l : ℕ) (key : ℤ) (label : ℕ) → not (pair_up_to k l key label) ≡ true → pair_before key label k l ≡ true
pair_above k l key label past = grind (arith, ints, nat_tests)

module _ (label : ℕ) (op : Op) (rows by_key : List KeyRow) where
  abbrev key : ℤ
  key = key_of op

  abbrev up : KeyRow → Bool
  up row = nat_le row.0 label

  abbrev past : KeyRow → Bool
  past row = nat_lt label row.0

  abbrev up_by_key : KeyRow → Bool
  up_by_key row = reaches key label row

  abbrev past_by_key : KeyRow → Bool
  past_by_key row = not (up_by_key row)

  same_front : filter (is_on key) by_key ≡ filter (is_on key) rows → filter (is_on key) (filter up_by_key by_key) ≡ filter (is_on key) (filter up rows)
  same_front same = sym (on_front key (λ l. nat_le l label) by_key) ∙ same_that key rows by_key same up ∙ filter_either (is_on key) up rows

  same_back : filter (is_on key) by_key ≡ filter (is_on key) rows → filter (is_on key) (filter past_by_key by_key) ≡ filter (is_on key) (filter past rows)
  same_back same =
      sym (on_back key (λ l. nat_le l label) by_key)
      ∙ filter-same (λ row. is_on key row && not (up row)) (λ row. is_on key row && past row) (λ row. ap (λ b. is_on key row && b) (sym (lt_is_not_le label row.0))) by_key
      ∙ same_that key rows by_key same past ∙ filter_either (is_on key) past rows

  same_with : (other : ℤ) (on : Bool) → is_on other (label, op) ≡ on → IsIndexed rows by_key → filter up_by_key by_key ++ filter past_by_key by_key ≡ by_key
      → filter (is_on other) (filter up_by_key by_key ++ (label, op) ∷ filter past_by_key by_key) ≡ filter (is_on other) (with_row label op rows)
  same_with other true here indexed all =
      let one : key ≡ other = (Decides-int_eq key other).0 here in
      rw (← one)
      (filter-append (is_on key) (filter up_by_key by_key) ((label, op) ∷ filter past_by_key by_key)
      ∙ ap (λ front. front ++ filter (is_on key) ((label, op) ∷ filter past_by_key by_key)) (same_front (indexed.same key))
      ∙ ap (λ back. filter (is_on key) (up_to label rows) ++ cond (is_on key (label, op)) ((label, op) ∷ back) back) (same_back (indexed.same key))
      ∙ sym (filter-append (is_on key) (up_to label rows) ((label, op) ∷ behind label rows)))
  same_with other false here indexed all =
      without (filter up_by_key by_key) (filter past_by_key by_key)
      ∙ ap (filter (is_on other)) all ∙ indexed.same other ∙ ap (filter (is_on other)) (sym (parted label rows indexed.listed.rising))
      ∙ sym (without (up_to label rows) (behind label rows)) where
        without : (front back : List KeyRow) → filter (is_on other) (front ++ (label, op) ∷ back) ≡ filter (is_on other) (front ++ back)
        without front back =
            filter-append (is_on other) front ((label, op) ∷ back)
            ∙ ap (λ found. filter (is_on other) front ++ found) (filter-no (is_on other) (label, op) back here)
            ∙ sym (filter-append (is_on other) front back)

  indexed_with : IsIndexed rows by_key → op_at label rows ≡ None → kind_of op ≡ Dict → filter up_by_key by_key ++ filter past_by_key by_key ≡ by_key
      → IsIndexed (with_row label op rows) (filter up_by_key by_key ++ (label, op) ∷ filter past_by_key by_key)
  indexed_with indexed fresh dict all =
      let others = none_has label rows fresh in
      let others_on_key = all_unfiltered (is_on key) (λ (row : KeyRow). (row.0 == label) ≡ false) by_key
      (subst (AllByRecursion (λ (row : KeyRow). (row.0 == label) ≡ false)) (sym (indexed.same key)) (all_filter (is_on key) (λ (row : KeyRow). (row.0 == label) ≡ false) rows others)) in
      record {
        listed = record {
          rising = rise_around (up_to label rows) (behind label rows) (label, op) (rise_filter up rows indexed.listed.rising)
              (all_both (λ (row : KeyRow). up row ≡ true) (λ (row : KeyRow). (row.0 == label) ≡ false) (λ (row : KeyRow). row.0 < label) (up_to label rows) (λ row here other. below row.0 label here other)
              (filter_passes up rows) (all_filter up (λ (row : KeyRow). (row.0 == label) ≡ false) rows others))
              (rise_filter past rows indexed.listed.rising)
              (all_weaker (λ (row : KeyRow). past row ≡ true) (λ (row : KeyRow). label < row.0) (behind label rows) (λ row here. above row.0 label here) (filter_passes past rows));
          of_dict = all-append (λ (row : KeyRow). kind_of row.1 ≡ Dict) (up_to label rows) ((label, op) ∷ behind label rows) (all_filter up (λ (row : KeyRow). kind_of row.1 ≡ Dict) rows indexed.listed.of_dict)
              (dict, all_filter past (λ (row : KeyRow). kind_of row.1 ≡ Dict) rows indexed.listed.of_dict);
        };
        ordered = by_key_around (filter up_by_key by_key) (filter past_by_key by_key) (label, op) (by_key_filter up_by_key by_key indexed.ordered)
            (all_both (λ (row : KeyRow). up_by_key row ≡ true) (λ (row : KeyRow). is_on key row ≡ true → (row.0 == label) ≡ false) (λ (row : KeyRow). stands_before row (label, op) ≡ true) (filter up_by_key by_key)
            (λ row here other. pair_below (key_of row.1) row.0 key label here other) (filter_passes up_by_key by_key)
            (all_filter up_by_key (λ (row : KeyRow). is_on key row ≡ true → (row.0 == label) ≡ false) by_key others_on_key))
            (by_key_filter past_by_key by_key indexed.ordered)
            (all_weaker (λ (row : KeyRow). past_by_key row ≡ true) (λ (row : KeyRow). stands_before (label, op) row ≡ true) (filter past_by_key by_key)
            (λ row here. pair_above (key_of row.1) row.0 key label here) (filter_passes past_by_key by_key));
        as_many = omega (
          arith,
          length-append (filter up_by_key by_key) ((label, op) ∷ filter past_by_key by_key),
          length-append (up_to label rows) ((label, op) ∷ behind label rows),
          length-filter_both up past (λ row. lt_is_not_le label row.0) rows,
          length-filter_both up_by_key past_by_key (λ row. refl) by_key,
          indexed.as_many,
        );
        same = λ other. same_with other (is_on other (label, op)) refl indexed all;
      }

  pub put_indexed : (place : ℕ) → IsIndexed rows by_key → op_at label rows ≡ None → kind_of op ≡ Dict → take place by_key ≡ filter up_by_key by_key → drop place by_key ≡ filter past_by_key by_key
      → IsIndexed (with_row label op rows) (take place by_key ++ (label, op) ∷ drop place by_key)
  put_indexed place indexed fresh dict front back =
      rw (front, back) (indexed_with indexed fresh dict (ap (λ l. l ++ filter past_by_key by_key) (sym front) ∙ ap (λ l. take place by_key ++ l) (sym back) ∙ take-append-drop place by_key))
