-- Sums are a monoid, and add up lists.
use Rattle.std.proofs.Common.{◌≡◌, ℕ, ℤ, pos, ◌+ℤ◌, List, [], ◌∷◌, refl, ap, arith}
use Rattle.std.proofs.lemmas.Int.{ints}
use Rattle.monoids.specs.Laws.{MonoidLaws}
use Rattle.monoids.specs.Measure.{measure_of}
use Rattle.monoid_laws.specs.Summed.{Summed, no_sum, one_sum, joined_sum, sum_of}

abbrev summed : ℕ → ℤ → Summed
summed items sum = record { items = items; sum = sum }

add_zero : (a : ℤ) → a +ℤ pos 0 ≡ a
add_zero a = omega (arith, ints)

pub zero_add : (a : ℤ) → pos 0 +ℤ a ≡ a
zero_add a = omega (arith, ints)

pub add_assoc : (a b c : ℤ) → (a +ℤ b) +ℤ c ≡ a +ℤ (b +ℤ c)
add_assoc a b c = omega (arith, ints)

same : {m n : ℕ} {a b : ℤ} → m ≡ n → a ≡ b → summed m a ≡ summed n b
same p q = cc

pub sum_laws : MonoidLaws (λ a. a.items) no_sum joined_sum
sum_laws = record {
  unit_items = refl;
  join_items = λ a b. refl;
  left_unit = λ a. same (omega arith) (zero_add a.sum);
  right_unit = λ a. same (omega arith) (add_zero a.sum);
  assoc = λ a b c. same (omega arith) (add_assoc a.sum b.sum c.sum);
}

-- the sum of a list's numbers is the sum of the value that they make
pub sum-measure_of : (xs : List ℤ) → (measure_of no_sum joined_sum one_sum xs).sum ≡ sum_of xs
sum-measure_of [] = refl
sum-measure_of (x ∷ xs) = ap (λ s. x +ℤ s) (sum-measure_of xs)
