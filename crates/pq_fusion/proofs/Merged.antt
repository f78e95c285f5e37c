-- Two rising lists are merged from their fronts: the lesser of the two first entries stands first in both together.
use Rattle.std.proofs.Common.{◌≡◌, ℕ, zero, suc, ◌+◌, ◌<◌, ◌≤◌, true, false, List, [], ◌∷◌, ◌++◌, length, drop, get_or, ◌⊎◌, inl, inr, refl, ap, sym, ◌∙◌, arith, subst, add-one, append_assoc}
use Rattle.std.proofs.Math.Seq.{drop-cons}
use Rattle.std.proofs.lemmas.List.{drop_all}
use Rattle.retro_base.specs.declared.row.Entry.{Entry}
use Rattle.retro_base.specs.EntriesInOrder.{AreInOrder}
use Rattle.retro_base.specs.State.{comes_before}
use Rattle.retro_base.specs.lemmas.bridges.EntryOrder.{before_one_way}
use Rattle.pq_fusion.specs.Pieces.{together}
use Rattle.pq_fusion.proofs.Order.{least_further, least_first, together_none, together_more, together_alone, least_together, with_in_second, with_none}

-- the first of the second list comes before that of the first
pub second_first : (x y : Entry) (xs ys : List Entry) → AreInOrder (x ∷ xs) → AreInOrder (y ∷ ys) → comes_before y x ≡ true
    → together (x ∷ xs) (y ∷ ys) ≡ y ∷ together (x ∷ xs) ys
second_first x y xs ys first second before =
    let later = before_one_way y x before in
    ap (together (x ∷ xs)) (sym (least_first y ys second.0)) ∙ with_in_second y (x ∷ xs) ys
    ∙ least_first y (together (x ∷ xs) ys) (least_together y (x ∷ xs) ys (later, least_further y x xs later first.0) second.0)

-- and it does not
pub first_first : (x y : Entry) (xs ys : List Entry) → AreInOrder (x ∷ xs) → AreInOrder (y ∷ ys) → comes_before y x ≡ false
    → together (x ∷ xs) (y ∷ ys) ≡ x ∷ together xs (y ∷ ys)
first_first x y xs ys first second after =
    together_more x xs (y ∷ ys)
    ∙ least_first x (together xs (y ∷ ys)) (least_together x xs (y ∷ ys) first.0 (after, least_further x y ys after second.0))

pub order_drop : (n : ℕ) (xs : List Entry) → AreInOrder xs → AreInOrder (drop n xs)
order_drop zero xs order = order
order_drop (suc n) [] order = tt
order_drop (suc n) (x ∷ xs) order = order_drop n xs order.1

-- so many entries of each list were merged, and what is left together follows them
pub record IsMerged (first second both : List Entry) (i j : ℕ) : Type 0 where
  pub within_first : i ≤ length first
  pub within_second : j ≤ length second
  pub joined : together first second ≡ both ++ together (drop i first) (drop j second)

pub merge_starts : (first second : List Entry) → IsMerged first second [] 0 0
merge_starts first second = record { within_first = omega arith; within_second = omega arith; joined = refl }

pub at_place : (xs : List Entry) (i : ℕ) (d : Entry) → i < length xs → drop i xs ≡ get_or xs i d ∷ drop (i + 1) xs
at_place xs i d within = drop-cons xs i d within ∙ ap (λ n. get_or xs i d ∷ drop n xs) (sym (add-one i))

-- one more is merged
module _ (first second both : List Entry) (i j : ℕ) (in_first : AreInOrder first) (in_second : AreInOrder second) (merged : IsMerged first second both i j)
    (more_first : i < length first) (more_second : j < length second) where
  heads : (d e : Entry) → together (drop i first) (drop j second) ≡ together (get_or first i d ∷ drop (i + 1) first) (get_or second j e ∷ drop (j + 1) second)
  heads d e = ap (λ xs. together xs (drop j second)) (at_place first i d more_first) ∙ ap (together (get_or first i d ∷ drop (i + 1) first)) (at_place second j e more_second)

  first_order : (d : Entry) → AreInOrder (get_or first i d ∷ drop (i + 1) first)
  first_order d = subst AreInOrder (at_place first i d more_first) (order_drop i first in_first)

  second_order : (d : Entry) → AreInOrder (get_or second j d ∷ drop (j + 1) second)
  second_order d = subst AreInOrder (at_place second j d more_second) (order_drop j second in_second)

  pub merge_second : (d e : Entry) → comes_before (get_or second j e) (get_or first i d) ≡ true → IsMerged first second (both ++ get_or second j e ∷ []) i (j + 1)
  merge_second d e before = record {
    within_first = merged.within_first;
    within_second = omega arith;
    joined = merged.joined ∙ ap (λ l. both ++ l) (heads d e
        ∙ second_first (get_or first i d) (get_or second j e) (drop (i + 1) first) (drop (j + 1) second) (first_order d) (second_order e) before
        ∙ ap (λ xs. get_or second j e ∷ together xs (drop (j + 1) second)) (sym (at_place first i d more_first)))
        ∙ sym (append_assoc both (get_or second j e ∷ []) (together (drop i first) (drop (j + 1) second)));
  }

  pub merge_first : (d e : Entry) → comes_before (get_or second j e) (get_or first i d) ≡ false → IsMerged first second (both ++ get_or first i d ∷ []) (i + 1) j
  merge_first d e after = record {
    within_first = omega arith;
    within_second = merged.within_second;
    joined = merged.joined ∙ ap (λ l. both ++ l) (heads d e
        ∙ first_first (get_or first i d) (get_or second j e) (drop (i + 1) first) (drop (j + 1) second) (first_order d) (second_order e) after
        ∙ ap (λ ys. get_or first i d ∷ together (drop (i + 1) first) ys) (sym (at_place second j e more_second)))
        ∙ sym (append_assoc both (get_or first i d ∷ []) (together (drop (i + 1) first) (drop j second)));
  }

-- where one list has no more, the rest of the other follows
together_rest : (xs ys : List Entry) → AreInOrder xs → (xs ≡ []) ⊎ (ys ≡ []) → together xs ys ≡ xs ++ ys
together_rest xs ys order (inl none) = rw none (together_none ys)
together_rest xs ys order (inr none) = rw none (together_alone xs order ∙ with_none xs)

no_more_left : (first second : List Entry) (i j : ℕ) → (length first ≤ i) ⊎ (length second ≤ j) → (drop i first ≡ []) ⊎ (drop j second ≡ [])
no_more_left first second i j (inl over) = inl (drop_all i first over)
no_more_left first second i j (inr over) = inr (drop_all j second over)

pub merge_ends : (first second both : List Entry) (i j : ℕ) → AreInOrder first → IsMerged first second both i j → (length first ≤ i) ⊎ (length second ≤ j)
    → (both ++ drop i first) ++ drop j second ≡ together first second
merge_ends first second both i j order merged over =
    append_assoc both (drop i first) (drop j second)
    ∙ ap (λ l. both ++ l) (sym (together_rest (drop i first) (drop j second) (order_drop i first order) (no_more_left first second i j over)))
    ∙ sym merged.joined
