-- The sums of prefixes, for a search that waits until one of them reaches a goal.
use Rattle.std.proofs.Common.{◌≡◌, ℕ, zero, suc, ℤ, pos, ◌+ℤ◌, ◌≤ℤ◌, ◌≤◌, ◌-◌, List, [], ◌∷◌, map, take, true, refl, ap, ◌∙◌, arith}
use Rattle.std.proofs.lemmas.Int.{ints}
use Rattle.std.specs.List.{slice_range}
use Rattle.std.specs.Int.Signed.{le_z}
use Rattle.monoid_laws.specs.Summed.{one_sum, no_sum, joined_sum, sum_of}
use Rattle.monoid_laws.specs.Measure.{measure_of}
use Rattle.weighted_tree.specs.Search.{IsRising}

module _ {A : Type 0} (size : A → ℕ) where
  abbrev prefix : List A → ℕ → ℤ
  prefix items place = sum_of (map (λ a. pos (size a)) (take place items))

  sum_is : (items : List A) → (measure_of no_sum joined_sum (λ a. one_sum (pos (size a))) items).sum ≡ sum_of (map (λ a. pos (size a)) items)
  sum_is [] = refl
  sum_is (a ∷ items) = ap (λ s. pos (size a) +ℤ s) (sum_is items)

  -- the sum of what is measured from the first place is that of a prefix
  pub sum-prefix : (items : List A) (place : ℕ) → (measure_of no_sum joined_sum (λ a. one_sum (pos (size a))) (slice_range items 0 place)).sum ≡ prefix items place
  sum-prefix items place = sum_is (slice_range items 0 place) ∙ ap (prefix items) (let same : place - 0 ≡ place = omega arith in same)

  not_negative : (items : List A) (place : ℕ) → pos 0 ≤ℤ prefix items place
  not_negative items zero = omega (arith, ints)
  not_negative [] (suc place) = omega (arith, ints)
  not_negative (a ∷ items) (suc place) = omega (arith, ints, not_negative items place)

  -- a longer prefix has no lesser sum
  grows : (items : List A) (place later : ℕ) → place ≤ later → prefix items place ≤ℤ prefix items later
  grows items zero later order = not_negative items later
  grows items (suc place) zero order = absurd (omega arith)
  grows [] (suc place) (suc later) order = omega (arith, ints)
  grows (a ∷ items) (suc place) (suc later) order = omega (arith, ints, grows items place later (omega arith))

  reached : (goal sum greater : ℤ) → sum ≤ℤ greater → le_z goal sum ≡ true → le_z goal greater ≡ true
  reached goal sum greater order is = grind (arith, ints)

  -- once it reaches a goal, it does so at each later place
  pub prefix-rises : (goal : ℤ) (items : List A) (from to : ℕ) → IsRising (λ place. le_z goal (prefix items place)) from to
  prefix-rises goal items from to place later above order within holding = reached goal (prefix items place) (prefix items later) (grows items place later order) holding
