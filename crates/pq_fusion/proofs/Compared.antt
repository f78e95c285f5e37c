-- The entry that one of two rising lists has besides is found at the first place where they differ.
use Rattle.std.proofs.Common.{◌≡◌, ℕ, zero, suc, ◌+◌, ◌<◌, ◌≤◌, true, false, cond, List, [], ◌∷◌, length, drop, get_or, refl, ap, sym, ◌∙◌, arith, add-one}
use Rattle.std.proofs.lemmas.List.{drop_all}
use Rattle.retro_base.specs.declared.row.Entry.{Entry}
use Rattle.retro_base.specs.State.{comes_before, with_entry}
use Rattle.retro_base.specs.lemmas.bridges.EntryOrder.{before_irreflexive}
use Rattle.pq_fusion.specs.declared.bound.Bound.{Bound}
use Rattle.pq_fusion.specs.declared.bound.Bound.TheVariants.{Low, At, Top}
use Rattle.pq_fusion.specs.Bounds.{is_below, with_bound}
use Rattle.pq_fusion.specs.Differences.{besides}

besides_none : (xs : List Entry) → besides xs xs ≡ Top
besides_none [] = refl
besides_none (x ∷ xs) = rw (before_irreflexive x) (besides_none xs)

besides_one : (e : Entry) (xs : List Entry) → besides xs (with_entry e xs) ≡ At e
besides_one e [] = refl
besides_one e (x ∷ xs) = elim (comes_before e x) as (λ t. comes_before e x ≡ t → besides (x ∷ xs) (cond t (e ∷ x ∷ xs) (x ∷ with_entry e xs)) ≡ At e) [
  | true ↦ λ before. rw before refl
  | false ↦ λ after. rw (before_irreflexive x) (besides_one e xs)
] refl

pub besides_is : (x : Bound) (fewer more : List Entry) → is_below Low x ≡ true → more ≡ with_bound x fewer → besides fewer more ≡ x
besides_is Low fewer more some is = absurd (cc)
besides_is (At e) fewer more some is = ap (besides fewer) is ∙ besides_one e fewer
besides_is Top fewer more some is = ap (besides fewer) is ∙ besides_none fewer

-- one more place at which they do not differ, and where they do
later : (xs ys : List Entry) (n : ℕ) (d e : Entry) → n < length ys → n < length xs → comes_before (get_or ys n d) (get_or xs n e) ≡ false
    → besides (drop n xs) (drop n ys) ≡ besides (drop (suc n) xs) (drop (suc n) ys)
later xs [] n d e in_second in_first after = absurd (omega arith)
later [] (y ∷ ys) n d e in_second in_first after = absurd (omega arith)
later (x ∷ xs) (y ∷ ys) zero d e in_second in_first after = rw after refl
later (x ∷ xs) (y ∷ ys) (suc n) d e in_second in_first after = later xs ys n d e (omega arith) (omega arith) after

pub besides_more : (xs ys : List Entry) (n : ℕ) (d e : Entry) → n < length ys → n < length xs → comes_before (get_or ys n d) (get_or xs n e) ≡ false
    → besides (drop n xs) (drop n ys) ≡ besides (drop (n + 1) xs) (drop (n + 1) ys)
besides_more xs ys n d e in_second in_first after = later xs ys n d e in_second in_first after ∙ ap (λ k. besides (drop k xs) (drop k ys)) (sym (add-one n))

pub besides_here : (xs ys : List Entry) (n : ℕ) (d e : Entry) → n < length ys → n < length xs → comes_before (get_or ys n d) (get_or xs n e) ≡ true
    → besides (drop n xs) (drop n ys) ≡ At (get_or ys n d)
besides_here xs [] n d e in_second in_first before = absurd (omega arith)
besides_here [] (y ∷ ys) n d e in_second in_first before = absurd (omega arith)
besides_here (x ∷ xs) (y ∷ ys) zero d e in_second in_first before = rw before refl
besides_here (x ∷ xs) (y ∷ ys) (suc n) d e in_second in_first before = besides_here xs ys n d e (omega arith) (omega arith) before

besides_nothing : (ys : List Entry) (n : ℕ) (d : Entry) → n < length ys → besides [] (drop n ys) ≡ At (get_or ys n d)
besides_nothing [] n d within = absurd (omega arith)
besides_nothing (y ∷ ys) zero d within = refl
besides_nothing (y ∷ ys) (suc n) d within = besides_nothing ys n d (omega arith)

pub besides_behind : (xs ys : List Entry) (n : ℕ) (d : Entry) → n < length ys → length xs ≤ n → besides (drop n xs) (drop n ys) ≡ At (get_or ys n d)
besides_behind xs ys n d within over = ap (λ l. besides l (drop n ys)) (drop_all n xs over) ∙ besides_nothing ys n d within

pub besides_end : (xs ys : List Entry) (n : ℕ) → length ys ≤ n → besides (drop n xs) (drop n ys) ≡ Top
besides_end xs ys n over = ap (besides (drop n xs)) (drop_all n ys over)
