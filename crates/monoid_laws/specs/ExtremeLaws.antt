-- The first of the greatest elements is a monoid over any total order, and is that of a list.
use Rattle.std.specs.Prelude.{◌≡◌, ℕ, zero, suc, ◌+◌, ◌<◌, false, Option, Some, None, List, [], ◌∷◌, slice_get, refl, MatchOption}
use Rattle.std.specs.declared.cmp.Ordering.{Ordering}
use Rattle.std.specs.declared.cmp.Ordering.TheVariants.{Less, Equal, Greater}
use Rattle.std.specs.Ordering.{is_gt, ordering_reverse, flip_args}
use Rattle.std.specs.Option.{option_map}
use Rattle.std.specs.Cmp.{IsTotalOrder, upto, tied_itself, back_total}
use Rattle.std.proofs.Common.{sym, ap, ◌∙◌, arith, subst}
use Rattle.monoids.specs.Laws.{MonoidLaws}
use Rattle.monoid_laws.specs.Extreme.{Extreme, no_extreme, at_start, moved, greater_of, first_greatest, joined_extreme, extreme_of, NoElement, IsFirstGreatest, IsGreatestElement, IsGreatestOffset}

abbrev extreme : {E : Type 0} → ℕ → Option (E × ℕ) → Extreme E
extreme n o = record { items = n; first = o }

same : {E : Type 0} {m n : ℕ} {a b : Option (E × ℕ)} → m ≡ n → a ≡ b → extreme m a ≡ extreme n b
same p q = cc

moved_none : {E : Type 0} (a : Option (E × ℕ)) → moved 0 a ≡ a
moved_none None = refl
moved_none (Some p) = ap (λ j. Some (p.0, j)) (omega arith)

moved_moved : {E : Type 0} (m n : ℕ) (a : Option (E × ℕ)) → moved (m + n) a ≡ moved m (moved n a)
moved_moved m n None = refl
moved_moved m n (Some p) = ap (λ j. Some (p.0, j)) (omega arith)

module _ {E : Type 0} {order : E → E → Ordering} (total : IsTotalOrder order) where
  moved_greater : (n : ℕ) (r : Ordering) (a b : E × ℕ) → moved n (Some (greater_of r a b)) ≡ Some (greater_of r (a.0, n + a.1) (b.0, n + b.1))
  moved_greater n Less a b = refl
  moved_greater n r a b = refl

  moved_first : (n : ℕ) (a b : Option (E × ℕ)) → moved n (first_greatest order a b) ≡ first_greatest order (moved n a) (moved n b)
  moved_first n None b = refl
  moved_first n (Some a) None = refl
  moved_first n (Some a) (Some b) = moved_greater n (order a.0 b.0) a b

  first_none : (a : Option (E × ℕ)) → first_greatest order a None ≡ a
  first_none None = refl
  first_none (Some a) = refl

  keeps : {P : Type 0} (r : Ordering) (a c : P) → is_gt (ordering_reverse r) ≡ false → greater_of r a c ≡ a
  keeps Less a c above = absurd (cc above)
  keeps r a c above = refl

  -- the greatest of three, where b is not greater than a, and c not greater than b
  stays : (a b c : E × ℕ) → is_gt (order b.0 a.0) ≡ false → is_gt (order c.0 b.0) ≡ false → greater_of (order a.0 c.0) a c ≡ a
  stays a b c p q = keeps (order a.0 c.0) a c (ap is_gt (sym (total.antisymm c.0 a.0)) ∙ upto total c.0 b.0 a.0 q p)

  back : (a b : E) (r : Ordering) → order a b ≡ r → order b a ≡ ordering_reverse r
  back a b r p = total.antisymm b a ∙ ap ordering_reverse p

  assoc_by : (a b c : E × ℕ) (r s : Ordering) → order a.0 b.0 ≡ r → order b.0 c.0 ≡ s → greater_of (order (greater_of r a b).0 c.0) (greater_of r a b) c ≡ greater_of (order a.0 (greater_of s b c).0) a (greater_of s b c)
  assoc_by a b c Less Less p q = simp (q, total.trans a.0 b.0 c.0 p q)
  assoc_by a b c Less s p q = simp (p, q)
  assoc_by a b c r Less p q = refl
  assoc_by a b c r s p q = simp p (stays a b c (ap is_gt (back a.0 b.0 r p)) (ap is_gt (back b.0 c.0 s q)))

  first_assoc : (a b c : Option (E × ℕ)) → first_greatest order (first_greatest order a b) c ≡ first_greatest order a (first_greatest order b c)
  first_assoc None b c = refl
  first_assoc (Some a) None c = refl
  first_assoc (Some a) (Some b) None = refl
  first_assoc (Some a) (Some b) (Some c) = ap Some (assoc_by a b c (order a.0 b.0) (order b.0 c.0) refl refl)

  -- an order that is total makes a monoid
  pub extreme_laws : MonoidLaws (λ a. a.items) no_extreme (joined_extreme order)
  extreme_laws = record {
    unit_items = refl;
    join_items = λ a b. refl;
    left_unit = λ a. same (omega arith) (moved_none a.first);
    right_unit = λ a. same (omega arith) (first_none a.first);
    assoc = λ a b c. same (omega arith) (
        ap (first_greatest order (first_greatest order a.first (moved a.items b.first))) (moved_moved a.items b.items c.first)
        ∙ first_assoc a.first (moved a.items b.first) (moved a.items (moved b.items c.first))
        ∙ ap (first_greatest order a.first) (sym (moved_first a.items b.first (moved b.items c.first))));
  }

  -- what the value of a list says of it
  abbrev IsExtreme : List (Option E) → Option (E × ℕ) → Type 0
  IsExtreme items o = MatchOption o (NoElement items) (λ p. IsFirstGreatest order items p.0 p.1)

  -- the first item has no element, or a lesser one
  one_further : (o : Option E) (items : List (Option E)) (e : E) (k : ℕ) → IsFirstGreatest order items e k → ((x : E) → o ≡ Some x → order x e ≡ Less) → IsFirstGreatest order (o ∷ items) e (suc k)
  one_further o items e k rest less = record { there = rest.there; greatest = greatest; first = first }
    where
      greatest : (j : ℕ) (x : E) → slice_get (o ∷ items) j ≡ Some (Some x) → is_gt (order x e) ≡ false
      greatest zero x is = ap is_gt (less x (cc is))
      greatest (suc j) x is = rest.greatest j x is

      first : (j : ℕ) (x : E) → j < suc k → slice_get (o ∷ items) j ≡ Some (Some x) → order x e ≡ Less
      first zero x below is = less x (cc is)
      first (suc j) x below is = rest.first j x (omega arith) is

  no_more : (items : List (Option E)) → NoElement items → NoElement (None ∷ items)
  no_more items none zero x is = cc is
  no_more items none (suc j) x is = none j x is

  -- it has one that no later one exceeds
  at_first : (a : E) (items : List (Option E)) → ((j : ℕ) (x : E) → slice_get items j ≡ Some (Some x) → is_gt (order x a) ≡ false) → IsFirstGreatest order (Some a ∷ items) a 0
  at_first a items above = record { there = refl; greatest = greatest; first = λ j x below is. absurd (omega arith) }
    where
      greatest : (j : ℕ) (x : E) → slice_get (Some a ∷ items) j ≡ Some (Some x) → is_gt (order x a) ≡ false
      greatest zero x is = let same_element : a ≡ x = cc is in subst (λ y. is_gt (order y a) ≡ false) same_element (ap is_gt (tied_itself total a))
      greatest (suc j) x is = above j x is

  kept : (a : E) (items : List (Option E)) (e : E) (k : ℕ) → IsFirstGreatest order items e k → is_gt (order e a) ≡ false → IsFirstGreatest order (Some a ∷ items) a 0
  kept a items e k rest above = at_first a items (λ j x is. upto total x e a (rest.greatest j x is) above)

  one_on : (n : ℕ) → 1 + n ≡ suc n
  one_on n = omega arith

  greater_on : (a : E) (items : List (Option E)) (p : E × ℕ) (r : Ordering) → order a p.0 ≡ r → IsFirstGreatest order items p.0 p.1 → IsExtreme (Some a ∷ items) (Some (greater_of r (a, 0) (p.0, 1 + p.1)))
  greater_on a items p Less is rest = subst (IsFirstGreatest order (Some a ∷ items) p.0) (sym (one_on p.1)) (one_further (Some a) items p.0 p.1 rest (λ x same. let same_element : a ≡ x = cc same in subst (λ y. order y p.0 ≡ Less) same_element is))
  greater_on a items p Equal is rest = kept a items p.0 p.1 rest (ap is_gt (back a p.0 Equal is))
  greater_on a items p Greater is rest = kept a items p.0 p.1 rest (ap is_gt (back a p.0 Greater is))

  one_more : (o : Option E) (items : List (Option E)) (rest : Option (E × ℕ)) → IsExtreme items rest → IsExtreme (o ∷ items) (first_greatest order (at_start o) (moved 1 rest))
  one_more None items None none = no_more items none
  one_more None items (Some p) rest = subst (IsFirstGreatest order (None ∷ items) p.0) (sym (one_on p.1)) (one_further None items p.0 p.1 rest (λ x same. absurd (cc same)))
  one_more (Some a) items None none = at_first a items (λ j x is. absurd (none j x is))
  one_more (Some a) items (Some p) rest = greater_on a items p (order a p.0) refl rest

  is_extreme : (items : List (Option E)) → IsExtreme items (extreme_of order items).first
  is_extreme [] = λ j x is. cc is
  is_extreme (o ∷ items) = one_more o items (extreme_of order items).first (is_extreme items)

  element_is : (items : List (Option E)) (o : Option (E × ℕ)) → IsExtreme items o → IsGreatestElement order items (option_map (λ p. p.0) o)
  element_is items None none = none
  element_is items (Some p) first = (p.1, first)

  offset_is : (items : List (Option E)) (o : Option (E × ℕ)) → IsExtreme items o → IsGreatestOffset order items (option_map (λ p. p.1) o)
  offset_is items None none = none
  offset_is items (Some p) first = (p.0, first)

  -- the value of a list has its first greatest element
  pub element-extreme_of : (items : List (Option E)) → IsGreatestElement order items (option_map (λ p. p.0) (extreme_of order items).first)
  element-extreme_of items = element_is items (extreme_of order items).first (is_extreme items)

  -- and that element's offset
  pub offset-extreme_of : (items : List (Option E)) → IsGreatestOffset order items (option_map (λ p. p.1) (extreme_of order items).first)
  offset-extreme_of items = offset_is items (extreme_of order items).first (is_extreme items)

-- the order turned round is total too
pub least_laws : {E : Type 0} {order : E → E → Ordering} → IsTotalOrder order → MonoidLaws (λ (a : Extreme E). a.items) no_extreme (joined_extreme (flip_args order))
least_laws total = extreme_laws (back_total total)
