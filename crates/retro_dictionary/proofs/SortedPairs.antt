-- Pairs that were sorted are in their order.
use Rattle.std.proofs.Common.{◌≡◌, ℕ, suc, ◌<◌, ℤ, Bool, false, cond, Ordering, List, [], ◌∷◌, length, get_or, subst, sym, ◌∙◌, arith, add-one}
use Rattle.std.specs.List.Sorted.{IsPermutation, IsSorted}
use Rattle.std.specs.Ordering.{int_cmp, ordering_then, is_lt}
use Rattle.std.proofs.lemmas.Int.{ints}
use Rattle.std.proofs.lemmas.List.Sorted.{sum_by-IsPermutation}
use Rattle.lifetime_segments.specs.Ordered.{IsOrder, AreInOrder, in_order}
use Rattle.lifetime_segments.specs.OrderedLaws.{not_before-chains, in_order-kept}
use Rattle.retro_base.specs.OrderLaws.{all_weaker}
use Rattle.retro_dictionary.specs.PairSearch.{pair_before}
use Rattle.retro_dictionary.specs.PairSearchLaws.{pair_order}
use Rattle.retro_dictionary.proofs.AsMany.{HaveSameItems}
use Rattle.retro_dictionary.proofs.InOrder.{in_order-same}

same-moved : {A : Type 0} (xs ys : List A) → IsPermutation xs ys → HaveSameItems xs ys
same-moved xs ys moved = record { as_many = λ test. sym (sum_by-IsPermutation (λ x. cond (test x) 1 0) xs ys moved) }

-- where no element stands before the one in front of it, none stands before any in front of it
all_ordered : {A : Type 0} {before : A → A → Bool} (order : IsOrder before) (xs : List A) → ((k : ℕ) (d : A) → suc k < length xs → before (get_or xs (suc k) d) (get_or xs k d) ≡ false) → AreInOrder before xs
all_ordered order [] sorted = tt
all_ordered order (x ∷ []) sorted = (tt, tt)
all_ordered {before = before} order (x ∷ y ∷ ys) sorted =
    let here : before y x ≡ false = sorted 0 x (omega arith) in
    let rest : AreInOrder before (y ∷ ys) = all_ordered order (y ∷ ys) (λ k d more. sorted (suc k) d (omega arith)) in
    ((here, all_weaker (λ z. before z y ≡ false) (λ z. before z x ≡ false) ys (λ z far. not_before-chains order x y z here far) rest.0), rest)

-- by the key, and then by the value
abbrev pair_cmp : ℤ × ℤ → ℤ × ℤ → Ordering
pair_cmp p q = ordering_then (int_cmp p.0 q.0) (int_cmp p.1 q.1)

is_before : (p q : ℤ × ℤ) → is_lt (pair_cmp p q) ≡ pair_before p q
is_before p q = grind (arith, ints)

pub sorted-is : (ps qs held : List (ℤ × ℤ)) → in_order pair_before ps ≡ in_order pair_before held → IsPermutation ps qs → IsSorted pair_cmp qs → qs ≡ in_order pair_before held
sorted-is ps qs held one moved sorted =
    let ordered : AreInOrder pair_before qs = all_ordered pair_order qs (λ k d more.
    sym (is_before (get_or qs (suc k) d) (get_or qs k d)) ∙ subst (λ n. is_lt (pair_cmp (get_or qs n d) (get_or qs k d)) ≡ false) (add-one k) (sorted k d (omega arith) (omega arith))) in
    sym (in_order-kept pair_order qs ordered) ∙ sym (in_order-same pair_order ps qs (same-moved ps qs moved)) ∙ one
