-- Where a test on items turns false: a node's items, put together from its two sides.
use Rattle.std.proofs.Common.{◌≡◌, ℕ, suc, ◌+◌, ◌-◌, ◌<◌, ◌≤◌, List, ◌∷◌, ◌++◌, Bool, true, false, sym, ap, ◌∙◌, subst, arith, inl, inr, get_or, length, length-append}
use Rattle.std.proofs.Math.Seq.{get_or-append_seam}
use Rattle.std.proofs.lemmas.Bool.{cases_Bool, cases_lt}
use Rattle.std.proofs.lemmas.List.{get_or_append_left, get_or-append-add}
use Rattle.std.specs.List.Sorted.{IsPartitionedBy, IsPartitionPoint}

-- so many items on, the part has the turn of the whole
pub record HasBoundary {A : Type 0} (holds : A → Bool) (whole : List A) (count : ℕ) (part : List A) : Type 0 where
  pub parted : IsPartitionedBy holds part
  pub boundary : (place : ℕ) → place ≤ length part → IsPartitionPoint (λ item. holds item ≡ true) (λ item. holds item ≡ false) part place
      → IsPartitionPoint (λ item. holds item ≡ true) (λ item. holds item ≡ false) whole (count + place)

module _ {A : Type 0} (holds : A → Bool) (left right : List A) (item : A) where
  abbrev items : List A
  items = left ++ item ∷ right

  at_left : (k : ℕ) (d : A) → k < length left → get_or items k d ≡ get_or left k d
  at_left k d within = get_or_append_left left (item ∷ right) d k within

  at_item : (d : A) → get_or items (length left) d ≡ item
  at_item d = get_or-append_seam left item right d

  at_right : (k : ℕ) (d : A) → get_or items (length left + suc k) d ≡ get_or right k d
  at_right k d = get_or-append-add left (item ∷ right) (suc k) d

  right_at : (k : ℕ) (d : A) → length left < k → get_or items k d ≡ get_or right (k - length left - 1) d
  right_at k d beyond = ap (λ i. get_or items i d) (let same : k ≡ length left + suc (k - length left - 1) = omega arith in same) ∙ at_right (k - length left - 1) d

  module _ (parted : IsPartitionedBy holds items) where
    left_parted : IsPartitionedBy holds left
    left_parted i j d order within holding =
        ap holds (sym (at_left i d (omega arith)))
        ∙ parted i j d order (omega (arith, length-append left (item ∷ right))) (ap holds (at_left j d within) ∙ holding)

    right_parted : IsPartitionedBy holds right
    right_parted i j d order within holding =
        ap holds (sym (at_right i d))
        ∙ parted (length left + suc i) (length left + suc j) d (omega arith) (omega (arith, length-append left (item ∷ right))) (ap holds (at_right j d) ∙ holding)

    fails_after : holds item ≡ false → (k : ℕ) (d : A) → length left ≤ k → k < length items → holds (get_or items k d) ≡ false
    fails_after fails k d after within = elim (cases_Bool (holds (get_or items k d))) [
      | inl holding ↦ absurd (cc (parted (length left) k d after within holding, ap holds (at_item d), fails))
      | inr failing ↦ failing
    ]

    pub turn_left : holds item ≡ false → HasBoundary holds items 0 left
    turn_left fails = record {
      parted = left_parted;
      boundary = λ place within point. (
        λ k d above below. ap holds (at_left k d (omega arith)) ∙ point.0 k d above (omega arith),
        λ k d above below. elim (cases_lt k (length left)) [
          | inl before ↦ ap holds (at_left k d before) ∙ point.1 k d (omega arith) before
          | inr after ↦ fails_after fails k d after below
        ],
      );
    }

    pub turn_right : holds item ≡ true → HasBoundary holds items (length left + 1) right
    turn_right holding = record {
      parted = right_parted;
      boundary = λ place within point. (
        λ k d above below. elim (cases_lt (length left) k) [
          | inl beyond ↦ ap holds (right_at k d beyond) ∙ point.0 (k - length left - 1) d (omega arith) (omega arith)
          | inr before ↦ parted k (length left) d before (omega (arith, length-append left (item ∷ right))) (ap holds (at_item d) ∙ holding)
        ],
        λ k d above below. ap holds (right_at k d (omega arith)) ∙ point.1 (k - length left - 1) d (omega arith) (omega (arith, length-append left (item ∷ right))),
      );
    }

-- one way down after another
pub boundary_after : {A : Type 0} {holds : A → Bool} {whole part inner : List A} {count more : ℕ} → HasBoundary holds whole count part
    → (IsPartitionedBy holds part → HasBoundary holds part more inner) → more + length inner ≤ length part → (next : ℕ) → next ≡ count + more
    → HasBoundary holds whole next inner
boundary_after {holds} {whole} {count} {more} outer step within next next_is =
    let inner = step outer.parted in
    record {
      parted = inner.parted;
      boundary = λ place below point. subst (IsPartitionPoint (λ item. holds item ≡ true) (λ item. holds item ≡ false) whole)
          (let same : count + (more + place) ≡ next + place = omega arith in same)
          (outer.boundary (more + place) (omega arith) (inner.boundary place below point));
    }

-- the whole has its own turn
pub own_boundary : {A : Type 0} (holds : A → Bool) (whole : List A) → IsPartitionedBy holds whole → (none : ℕ) → none ≡ 0 → HasBoundary holds whole none whole
own_boundary holds whole parted none none_is = record {
  parted = parted;
  boundary = λ place within point. subst (IsPartitionPoint (λ item. holds item ≡ true) (λ item. holds item ≡ false) whole) (let same : place ≡ none + place = omega arith in same) point;
}

-- the turn of what is left is that of the whole
pub turned : {A : Type 0} {holds : A → Bool} {whole part : List A} {count : ℕ} → HasBoundary holds whole count part → (leaf : List A) → leaf ≡ part
    → (place : ℕ) → place ≤ length leaf → (IsPartitionedBy holds leaf → IsPartitionPoint (λ item. holds item ≡ true) (λ item. holds item ≡ false) leaf place)
    → (found : ℕ) → found ≡ count + place → IsPartitionPoint (λ item. holds item ≡ true) (λ item. holds item ≡ false) whole found
turned {holds} {whole} outer leaf same place within point found is =
    let parted = subst (IsPartitionedBy holds) (sym same) outer.parted in
    subst (IsPartitionPoint (λ item. holds item ≡ true) (λ item. holds item ≡ false) whole) (sym is)
    (outer.boundary place (omega (arith, ap length same))
    (subst (λ xs. IsPartitionPoint (λ item. holds item ≡ true) (λ item. holds item ≡ false) xs place) same (point parted)))
