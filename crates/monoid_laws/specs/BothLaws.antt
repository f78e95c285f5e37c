-- Two monoids side by side are one.
use Rattle.std.proofs.Common.{◌≡◌, ℕ, List, [], ◌∷◌, refl, ap}
use Rattle.monoids.specs.Laws.{MonoidLaws}
use Rattle.monoids.specs.Measure.{measure_of}
use Rattle.monoid_laws.specs.Both.{joined_both, both_of}

same : {A B : Type 0} {a b : A} {c d : B} → a ≡ b → c ≡ d → (let v : A × B = (a, c) in v) ≡ (b, d)
same p q = cc

pub both_laws : {A B : Type 0} {items_first : A → ℕ} {items_second : B → ℕ} {unit_first : A} {unit_second : B} {join_first : A → A → A}
    {join_second : B → B → B} → MonoidLaws items_first unit_first join_first → MonoidLaws items_second unit_second join_second
    → MonoidLaws (λ (p : A × B). items_first p.0) (unit_first, unit_second) (joined_both join_first join_second)
both_laws first second = record {
  unit_items = first.unit_items;
  join_items = λ p q. first.join_items p.0 q.0;
  left_unit = λ p. same (first.left_unit p.0) (second.left_unit p.1);
  right_unit = λ p. same (first.right_unit p.0) (second.right_unit p.1);
  assoc = λ p q r. same (first.assoc p.0 q.0 r.0) (second.assoc p.1 q.1 r.1);
}

module _ {A B : Type 0} (unit_first : A) (unit_second : B) (join_first : A → A → A) (join_second : B → B → B) where
  -- the first part of a list of pairs is the value of the first parts
  pub first-both_of : (pairs : List (A × B)) → (both_of unit_first unit_second join_first join_second pairs).0 ≡ measure_of unit_first join_first (λ p. p.0) pairs
  first-both_of [] = refl
  first-both_of (p ∷ pairs) = ap (join_first p.0) (first-both_of pairs)

  -- and its second part that of the second parts
  pub second-both_of : (pairs : List (A × B)) → (both_of unit_first unit_second join_first join_second pairs).1 ≡ measure_of unit_second join_second (λ p. p.1) pairs
  second-both_of [] = refl
  second-both_of (p ∷ pairs) = ap (join_second p.1) (second-both_of pairs)
