-- Walks are a monoid, and know the sum of a list of steps, its least and its greatest prefix.
use Rattle.std.specs.Prelude.{◌≡◌, ℕ, zero, suc, ◌<◌, ℤ, pos, negsuc, ◌+ℤ◌, neg_ℤ, ◌≤ℤ◌, List, [], ◌∷◌, map, take, ◌⊎◌, refl}
use Rattle.std.proofs.Common.{ap, arith, inl, inr}
use Rattle.std.proofs.lemmas.Bool.{cases_lt}
use Rattle.std.proofs.lemmas.Int.{ints}
use Rattle.monoids.specs.Laws.{MonoidLaws}
use Rattle.monoid_laws.specs.Summed.{sum_of}
use Rattle.monoid_laws.specs.Walk.{Walk, no_walk, one_step, opposite_step, joined_walk, end_of, lowest_of, walk_of, opposite_walk_of, IsLeastPrefix, IsGreatestPrefix}

abbrev walk : ℕ → ℕ → ℕ → Walk
walk items falls rises = record { items = items; falls = falls; rises = rises }

same : {i j m n p q : ℕ} → i ≡ j → m ≡ n → p ≡ q → walk i m p ≡ walk j n q
same a b c = cc

pub walk_laws : MonoidLaws (λ a. a.items) no_walk joined_walk
walk_laws = record {
  unit_items = refl;
  join_items = λ a b. refl;
  left_unit = λ a. same (omega arith) (omega arith) (omega arith);
  right_unit = λ a. same (omega arith) (omega arith) (omega arith);
  assoc = λ a b c. same (omega arith) (omega arith) (omega arith);
}

-- the step and what is left of it
pub step_end : (x : ℤ) → end_of (one_step x) ≡ x
step_end (pos n) = omega (arith, ints)
step_end (negsuc n) = omega (arith, ints)

join_end : (a b : Walk) → end_of (joined_walk a b) ≡ end_of a +ℤ end_of b
join_end a b = omega (arith, ints)

-- a walk ends at the sum of its steps
pub end-walk_of : (xs : List ℤ) → end_of (walk_of xs) ≡ sum_of xs
end-walk_of [] = refl
end-walk_of (x ∷ xs) = omega (arith, ints, join_end (one_step x) (walk_of xs), step_end x, end-walk_of xs)

-- a step goes one way alone
pub one_way : (x : ℤ) → ((one_step x).falls ≡ 0) ⊎ ((one_step x).rises ≡ 0)
one_way (pos n) = inl refl
one_way (negsuc n) = inr refl

below_start : (a b : Walk) (s : ℤ) → lowest_of b ≤ℤ s → lowest_of (joined_walk a b) ≤ℤ (end_of a +ℤ s)
below_start a b s h = omega (arith, ints)

lowest_start : (a : Walk) → lowest_of a ≤ℤ pos 0
lowest_start a = omega (arith, ints)

-- no prefix ends below the lowest point
lowest-least : (xs : List ℤ) (k : ℕ) → lowest_of (walk_of xs) ≤ℤ sum_of (take k xs)
lowest-least [] zero = lowest_start no_walk
lowest-least [] (suc k) = lowest_start no_walk
lowest-least (x ∷ xs) zero = lowest_start (walk_of (x ∷ xs))
lowest-least (x ∷ xs) (suc k) =
    omega (arith, ints, step_end x, below_start (one_step x) (walk_of xs) (sum_of (take k xs)) (lowest-least xs k))

lowest_at_start : (a b : Walk) → ((a.falls ≡ 0) ⊎ (a.rises ≡ 0)) → b.falls < a.rises → lowest_of (joined_walk a b) ≡ pos 0
lowest_at_start a b (inl level) below = omega (arith, ints)
lowest_at_start a b (inr level) below = absurd (omega arith)

-- the lowest point is the start, or that of the rest of the walk
lowest_is : (a b : Walk) → ((a.falls ≡ 0) ⊎ (a.rises ≡ 0)) → (lowest_of (joined_walk a b) ≡ pos 0) ⊎ (lowest_of (joined_walk a b) ≡ end_of a +ℤ lowest_of b)
lowest_is a b way = elim (cases_lt b.falls a.rises) [
  | inl below ↦ inl (lowest_at_start a b way below)
  | inr beyond ↦ inr (omega (arith, ints))
]

-- some prefix ends at the lowest point
lowest-reached : (xs : List ℤ) → (k : ℕ) × (lowest_of (walk_of xs) ≡ sum_of (take k xs))
lowest-reached [] = (0, refl)
lowest-reached (x ∷ xs) =
    let (k, is) = lowest-reached xs in
    elim (lowest_is (one_step x) (walk_of xs) (one_way x)) [
      | inl start ↦ (0, start)
      | inr rest ↦ (suc k, omega (arith, ints, step_end x, rest, is))
    ]

-- the lowest point is the least sum of a prefix
pub lowest-walk_of : (xs : List ℤ) → IsLeastPrefix xs (lowest_of (walk_of xs))
lowest-walk_of xs = record { reached = lowest-reached xs; least = lowest-least xs }

opposite-map : (xs : List ℤ) → opposite_walk_of xs ≡ walk_of (map neg_ℤ xs)
opposite-map [] = refl
opposite-map (x ∷ xs) = ap (joined_walk (opposite_step x)) (opposite-map xs)

opposite_add : (x s t : ℤ) → t ≡ neg_ℤ s → neg_ℤ x +ℤ t ≡ neg_ℤ (x +ℤ s)
opposite_add x s t h = omega (arith, ints)

opposite_sum : (k : ℕ) (xs : List ℤ) → sum_of (take k (map neg_ℤ xs)) ≡ neg_ℤ (sum_of (take k xs))
opposite_sum zero xs = refl
opposite_sum (suc k) [] = refl
opposite_sum (suc k) (x ∷ xs) = opposite_add x (sum_of (take k xs)) (sum_of (take k (map neg_ℤ xs))) (opposite_sum k xs)

opposite_sum_all : (xs : List ℤ) → sum_of (map neg_ℤ xs) ≡ neg_ℤ (sum_of xs)
opposite_sum_all [] = refl
opposite_sum_all (x ∷ xs) = opposite_add x (sum_of xs) (sum_of (map neg_ℤ xs)) (opposite_sum_all xs)

-- the opposite walk ends at the opposite sum
pub end-opposite_walk_of : (xs : List ℤ) → neg_ℤ (end_of (opposite_walk_of xs)) ≡ sum_of xs
end-opposite_walk_of xs = omega (arith, ints, ap end_of (opposite-map xs), end-walk_of (map neg_ℤ xs), opposite_sum_all xs)

-- the depth of the opposite walk is the greatest sum of a prefix
pub highest-opposite_walk_of : (xs : List ℤ) → IsGreatestPrefix xs (neg_ℤ (lowest_of (opposite_walk_of xs)))
highest-opposite_walk_of xs =
    let low = lowest-walk_of (map neg_ℤ xs) in
    let e = ap lowest_of (opposite-map xs) in
    let (k, is) = low.reached in
    record {
      reached = (k, omega (arith, ints, e, is, opposite_sum k xs));
      greatest = λ j. omega (arith, ints, e, low.least j, opposite_sum j xs);
    }
