-- An entry is put into a rising list behind those that do not come after it, and taken out at the first that does not come before it.
use Rattle.std.proofs.Common.{◌≡◌, ℕ, zero, suc, ◌+◌, ◌<◌, ◌≤◌, inl, inr, Bool, true, false, cond, List, [], ◌∷◌, length, refl, ap, sym, ◌∙◌, arith, subst, ◌-◌}
use Rattle.std.specs.List.{AllWithin, remove}
use Rattle.retro_base.specs.declared.row.Entry.{Entry}
use Rattle.retro_base.specs.EntriesInOrder.{AreInOrder}
use Rattle.retro_base.specs.State.{comes_before, with_entry}
use Rattle.retro_base.specs.lemmas.bridges.EntryOrder.{before_one_way, before_irreflexive, neither_before}
use Rattle.retro_base.specs.lemmas.bridges.Entries.{with_later}
use Rattle.pq_fusion.specs.declared.bound.Bound.{Bound}
use Rattle.pq_fusion.specs.declared.bound.Bound.TheVariants.{Low, At, Top}
use Rattle.pq_fusion.specs.Bounds.{is_below, with_bound, tops}
use Rattle.pq_fusion.specs.Edits.{Apart, Passes}
use Rattle.pq_fusion.specs.Exchanges.{Has, HasBound, IsExchange}
use Rattle.pq_fusion.specs.Pieces.{PieceParts, IsPiece, IsRising}
use Rattle.pq_fusion.proofs.Order.{IsLeast, least_first}
use Rattle.pq_fusion.proofs.Fused.{parts, same_parts}
use Rattle.pq_fusion.proofs.Bounded.{same_bound, cancel}

-- putting in
all_from : (e : Entry) (xs : List Entry) → AllWithin (λ y. comes_before y e ≡ false) xs 0 (length xs) → IsLeast e xs
all_from e [] all = tt
all_from e (x ∷ xs) all = (all 0 x (omega arith) (omega arith), all_from e xs (λ k d from to. all (suc k) d (omega arith) (omega arith)))

-- taking out
pub record IsTaken (e : Entry) (xs ys : List Entry) : Type 0 where
  pub items : with_entry e ys ≡ xs
  pub order : AreInOrder ys

pub has_least : (x e : Entry) (xs : List Entry) → IsLeast x xs → Has e (x ∷ xs) → comes_before e x ≡ false
has_least x e xs least (inl same) = ap (λ d. comes_before d x) same ∙ before_irreflexive x
has_least x e [] least (inr there) = absurd there
has_least x e (y ∷ ys) least (inr there) = elim there [
  | inl same ↦ ap (λ d. comes_before d x) same ∙ least.0
  | inr further ↦ has_least x e ys least.1 (inr further)
]

least_removed : (x : Entry) (xs : List Entry) (place : ℕ) → IsLeast x xs → IsLeast x (remove xs place)
least_removed x [] zero least = tt
least_removed x [] (suc place) least = tt
least_removed x (y ∷ ys) zero least = least.1
least_removed x (y ∷ ys) (suc place) least = (least.0, least_removed x ys place least.1)

pub removed : (e : Entry) (xs : List Entry) (place : ℕ) → place ≤ length xs → AreInOrder xs → Has e xs → AllWithin (λ y. comes_before y e ≡ true) xs 0 place
    → AllWithin (λ y. comes_before y e ≡ false) xs place (length xs) → (place < length xs) × IsTaken e xs (remove xs place)
removed e [] place within order there before after = absurd there
removed e (x ∷ xs) zero within order there before after =
    let same : e ≡ x = neither_before e x (has_least x e xs order.0 there) (after 0 x (omega arith) (omega arith)) in
    (omega arith, record { items = ap (λ d. with_entry d xs) same ∙ least_first x xs order.0; order = order.1 })
removed e (x ∷ xs) (suc place) within order there before after =
    let own : comes_before x e ≡ true = before 0 x (omega arith) (omega arith) in
    let inside : Has e xs = elim there [
      | inl same ↦ let wrong : true ≡ false = sym own ∙ ap (λ d. comes_before x d) same ∙ before_irreflexive x in absurd (cc)
      | inr further ↦ further
    ] in
    let rest = removed e xs place (omega arith) order.1 inside (λ k d from to. before (suc k) d (omega arith) (omega arith)) (λ k d from to. after (suc k) d (omega arith) (omega arith)) in
    let lesser : place < length xs = rest.0 in (
      omega arith,
      record {
        items = with_later e x (remove xs place) (before_one_way x e own) ∙ ap (λ l. x ∷ l) rest.1.items;
        order = (least_removed x xs place order.0, rest.1.order);
      },
    )

-- what was put into a list is there
pub has_with : (e : Entry) (xs : List Entry) → Has e (with_entry e xs)
has_with e [] = inl refl
has_with e (x ∷ xs) = elim (comes_before e x) as (λ t. Has e (cond t (e ∷ x ∷ xs) (x ∷ with_entry e xs))) [
  | true ↦ inl refl
  | false ↦ inr (has_with e xs)
]

pub has_bound : (put take : Bound) (old new items : List Entry) → IsExchange put take old new → items ≡ with_bound put old → HasBound take items
has_bound put take old new items exchange is = subst (HasBound take) (sym (is ∙ exchange.same)) (there take)
  where
    there : (b : Bound) → HasBound b (with_bound b new)
    there Low = tt
    there (At e) = has_with e new
    there Top = tt

pub same_exchange : (put take : Bound) (xs : List Entry) → AreInOrder xs → is_below put take ≡ false → is_below take put ≡ false → IsExchange put take xs xs
same_exchange put take xs order first second = record { order = order; same = ap (λ b. with_bound b xs) (same_bound put take first second) }

-- the piece after an edit is one: by what was exchanged in both lists
module _ (own x : Bound) (before after : PieceParts) (left removed : List Entry) (rising : IsRising after) where
  pub gained : Apart own x before after → IsExchange x Low before.left left → IsExchange own x before.removed removed
      → (left ≡ after.left) × (removed ≡ after.removed) × (before.unmet - tops x ≡ after.unmet)
  gained apart first second = (
    sym first.same ∙ sym apart.left,
    cancel x removed after.removed second.order rising.removed (sym second.same ∙ apart.removed),
    omega (arith, apart.unmet),
  )

  pub lost : Apart own x after before → IsExchange Low x before.left left → IsExchange x own before.removed removed
      → (left ≡ after.left) × (removed ≡ after.removed) × (before.unmet + tops x ≡ after.unmet)
  lost apart first second = (
    cancel x left after.left first.order rising.left (sym first.same ∙ apart.left),
    cancel own removed after.removed second.order rising.removed (sym second.same ∙ sym apart.removed),
    omega (arith, apart.unmet),
  )

  pub piece_gained : (unmet : ℕ) → IsPiece after → unmet ≡ before.unmet - tops x → Apart own x before after
      → IsExchange x Low before.left left → IsExchange own x before.removed removed → IsPiece (parts left removed unmet)
  piece_gained unmet piece is apart first second =
      let same = gained apart first second in
      subst IsPiece (sym (same_parts left after.left removed after.removed unmet after.unmet same.0 same.1 (is ∙ same.2))) piece

  pub piece_lost : (unmet : ℕ) → IsPiece after → unmet ≡ before.unmet + tops x → Apart own x after before
      → IsExchange Low x before.left left → IsExchange x own before.removed removed → IsPiece (parts left removed unmet)
  piece_lost unmet piece is apart first second =
      let same = lost apart first second in
      subst IsPiece (sym (same_parts left after.left removed after.removed unmet after.unmet same.0 same.1 (is ∙ same.2))) piece

-- so it is, whichever the edit does, where it was seen as `seen`
module _ (gains : Bool) (own x : Bound) (seen before : PieceParts) (is : before ≡ seen) (some : (after : PieceParts) × (IsPiece after × Passes gains own x seen after)) where
  there_as : (way : Bool) → gains ≡ way → Passes way own x before some.0
  there_as way same = subst (λ p. Passes way own x p some.0) (sym is) (subst (λ g. Passes g own x seen some.0) same some.1.1)

  pub after_gain : gains ≡ true → (left removed : List Entry) (unmet tops_x : ℕ) → tops_x ≡ tops x → unmet ≡ before.unmet - tops_x
      → IsExchange x Low before.left left → IsExchange own x before.removed removed → IsPiece (parts left removed unmet)
  after_gain same left removed unmet tops_x tops_is unmet_is first second =
      piece_gained own x before some.0 left removed some.1.0.rising unmet some.1.0 (unmet_is ∙ ap (λ n. before.unmet - n) tops_is) (there_as true same) first second

  pub after_loss : gains ≡ false → (left removed : List Entry) (unmet tops_x : ℕ) → tops_x ≡ tops x → unmet ≡ before.unmet + tops_x
      → IsExchange Low x before.left left → IsExchange x own before.removed removed → IsPiece (parts left removed unmet)
  after_loss same left removed unmet tops_x tops_is unmet_is first second =
      piece_lost own x before some.0 left removed some.1.0.rising unmet some.1.0 (unmet_is ∙ ap (λ n. before.unmet + n) tops_is) (there_as false same) first second
