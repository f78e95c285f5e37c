-- The steps of a walk are first at their lowest point where its dip says.
use Rattle.std.proofs.Common.{◌≡◌, ℕ, zero, suc, ◌+◌, ◌-◌, ◌<◌, ◌≤◌, ℤ, pos, negsuc, ◌+ℤ◌, ◌≤ℤ◌, ◌<ℤ◌, neg_ℤ, List, [], ◌∷◌, drop, length, length-drop, refl, ◌∙◌, arith, inl, inr, subst, Option, Some, None, true, false}
use Rattle.std.specs.Prelude.{nat_lt, nat_le}
use Rattle.std.proofs.lemmas.Int.{ints}
use Rattle.std.proofs.lemmas.Bool.{cases_lt}
use Rattle.std.proofs.lemmas.Bool.Decides.{nat_tests}
use Rattle.monoid_laws.specs.Summed.{sum_to}
use Rattle.bridge_pq.specs.Dips.{falls_in, place_in, lower, dip_of, is_lowest_up_to}
use Rattle.bridge_pq.specs.MarkedRows.{one_dip-items}

-- after so many steps the sum is first as far below 0 as it ever is
pub record IsFirstLowest (xs : List ℤ) (place depth : ℕ) : Type 0 where
  pub within : place ≤ length xs
  pub there : sum_to xs place ≡ neg_ℤ (pos depth)
  pub least : (k : ℕ) → neg_ℤ (pos depth) ≤ℤ sum_to xs k
  pub first : (k : ℕ) → k < place → neg_ℤ (pos depth) <ℤ sum_to xs k

pub lt_true : (a b : ℕ) → a < b → nat_lt a b ≡ true
lt_true a b below = grind (arith, nat_tests)

pub lt_false : (a b : ℕ) → b ≤ a → nat_lt a b ≡ false
lt_false a b above = grind (arith, nat_tests)

-- with one step more in front the lowest point is the start, or that of the rest
module _ (x : ℤ) (xs : List ℤ) (place depth : ℕ) (rest : IsFirstLowest xs place depth) where
  module _ (up : pos depth ≤ℤ x) where
    start_least : (k : ℕ) → pos 0 ≤ℤ sum_to (x ∷ xs) k
    start_least zero = omega (arith, ints)
    start_least (suc k) = omega (arith, ints, rest.least k)

    at_start : IsFirstLowest (x ∷ xs) 0 0
    at_start = record { within = omega arith; there = refl; least = start_least; first = λ k below. absurd (omega arith) }

  module _ (below : ℕ) (down : neg_ℤ (pos (suc below)) ≡ x +ℤ neg_ℤ (pos depth)) where
    rest_least : (k : ℕ) → neg_ℤ (pos (suc below)) ≤ℤ sum_to (x ∷ xs) k
    rest_least zero = omega (arith, ints)
    rest_least (suc k) = omega (arith, ints, rest.least k)

    rest_first : (k : ℕ) → k < suc place → neg_ℤ (pos (suc below)) <ℤ sum_to (x ∷ xs) k
    rest_first zero before = omega (arith, ints)
    rest_first (suc k) before = omega (arith, ints, rest.first k (omega arith))

    after : IsFirstLowest (x ∷ xs) (1 + place) (suc below)
    after = subst (λ p. IsFirstLowest (x ∷ xs) p (suc below)) (let same : suc place ≡ 1 + place = omega arith in same) (record {
      within = omega (arith, rest.within);
      there = omega (arith, ints, rest.there);
      least = rest_least;
      first = rest_first;
    })

step_up : (n : ℕ) (xs : List ℤ) (low : Option (ℕ × ℕ)) → IsFirstLowest xs (place_in low) (falls_in low)
    → IsFirstLowest (pos n ∷ xs) (place_in (lower n 1 None low)) (falls_in (lower n 1 None low))
step_up n xs None rest = at_start (pos n) xs 0 0 rest (omega (arith, ints))
step_up n xs (Some (d, p)) rest = elim (cases_lt d n) [
  | inl shallow ↦ rw (lt_true d n shallow) (at_start (pos n) xs p (suc d) rest (omega (arith, ints)))
  | inr deep ↦ rw (lt_false d n deep) (after (pos n) xs p (suc d) rest (0 + (d - n)) (omega (arith, ints)))
]

step_down : (n : ℕ) (xs : List ℤ) (low : Option (ℕ × ℕ)) → IsFirstLowest xs (place_in low) (falls_in low)
    → IsFirstLowest (negsuc n ∷ xs) (place_in (lower 0 1 (Some (n, 1)) low)) (falls_in (lower 0 1 (Some (n, 1)) low))
step_down n xs None rest = after (negsuc n) xs 0 0 rest n (omega (arith, ints))
step_down n xs (Some (d, p)) rest = rw (lt_false d 0 (omega arith)) (after (negsuc n) xs p (suc d) rest (suc n + (d - 0)) (omega (arith, ints)))

nothing_least : (k : ℕ) → pos 0 ≤ℤ sum_to [] k
nothing_least zero = omega (arith, ints)
nothing_least (suc k) = omega (arith, ints)

pub first_lowest : (xs : List ℤ) → IsFirstLowest xs (place_in (dip_of xs).low) (falls_in (dip_of xs).low)
first_lowest [] = record { within = omega arith; there = refl; least = nothing_least; first = λ k below. absurd (omega arith) }
first_lowest (pos n ∷ xs) = step_up n xs (dip_of xs).low (first_lowest xs)
first_lowest (negsuc n ∷ xs) = step_down n xs (dip_of xs).low (first_lowest xs)

dip_items : (xs : List ℤ) → (dip_of xs).items ≡ length xs
dip_items [] = refl
dip_items (x ∷ xs) = omega (arith, one_dip-items x, dip_items xs)

-- how many steps are after the lowest point tells how many are before it
same_test : (all to place items low : ℕ) → items ≡ all - place → place ≤ all → to ≤ all → low ≤ items → nat_le (all - to) (items - low) ≡ nat_le (place + low) to
same_test all to place items low is within upto inside = grind (arith, nat_tests)

pub lowest-by-end : (xs : List ℤ) (to place : ℕ) → place ≤ length xs → to ≤ length xs
    → nat_le (length xs - to) ((dip_of (drop place xs)).items - place_in (dip_of (drop place xs)).low) ≡ is_lowest_up_to xs to place
lowest-by-end xs to place within upto =
    let after : (dip_of (drop place xs)).items ≡ length xs - place = dip_items (drop place xs) ∙ length-drop place xs in
    same_test (length xs) to place (dip_of (drop place xs)).items (place_in (dip_of (drop place xs)).low) after within upto (omega (arith, (first_lowest (drop place xs)).within, dip_items (drop place xs)))
