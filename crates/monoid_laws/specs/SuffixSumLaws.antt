-- The last place at which a prefix sum is at most a value, by the heights of the walks up to a place. These laws stand here
-- for the layers above: their proofs cite them.
use Rattle.std.proofs.Common.{◌≡◌, ℕ, zero, suc, ◌+◌, ◌-◌, ◌<◌, ◌≤◌, ℤ, ◌+ℤ◌, ◌-ℤ◌, ◌≤ℤ◌, ◌<ℤ◌, Bool, true, false, List, [], ◌∷◌, drop, length, refl, ap, ◌∙◌, arith, inl, inr, ◌⊎◌, length-take}
use Rattle.std.proofs.lemmas.Bool.{cases_lt}
use Rattle.std.proofs.lemmas.Int.{ints}
use Rattle.std.proofs.lemmas.List.{take-take}
use Rattle.std.specs.List.{slice_range}
use Rattle.std.specs.Int.Signed.{le_z}
use Rattle.monoid_laws.specs.Summed.{sum_of, sum_to}
use Rattle.monoid_laws.specs.Walk.{Walk, one_step, joined_walk, walk_of, end_of, height_of}
use Rattle.monoid_laws.specs.WalkLaws.{step_end, one_way, end-walk_of}
use Rattle.monoid_laws.specs.PrefixSumLaws.{sum-range, sum-split, le_true, le_false, true_le}

-- the whole walk ends no higher than its height
whole_within : (a b : Walk) → (end_of a +ℤ end_of b) ≤ℤ height_of (joined_walk a b)
whole_within a b = omega (arith, ints)

rest_within : (a b : Walk) → height_of b ≤ℤ height_of (joined_walk a b)
rest_within a b = omega (arith, ints)

-- the height is that of the rest, or the end of the whole
height_is : (a b : Walk) → ((a.falls ≡ 0) ⊎ (a.rises ≡ 0)) → (height_of (joined_walk a b) ≡ height_of b) ⊎ (height_of (joined_walk a b) ≡ end_of a +ℤ end_of b)
height_is a b (inl level) = elim (cases_lt b.falls a.rises) [
  | inl beyond ↦ inr (omega (arith, ints))
  | inr below ↦ inl (omega (arith, ints))
]
height_is a b (inr level) = inl (omega (arith, ints))

-- no suffix adds up to more than the height
suffix-le : (xs : List ℤ) (k : ℕ) → sum_of (drop k xs) ≤ℤ height_of (walk_of xs)
suffix-le [] zero = omega (arith, ints)
suffix-le [] (suc k) = omega (arith, ints)
suffix-le (x ∷ xs) zero = omega (arith, ints, step_end x, end-walk_of xs, whole_within (one_step x) (walk_of xs))
suffix-le (x ∷ xs) (suc k) = omega (arith, ints, suffix-le xs k, rest_within (one_step x) (walk_of xs))

-- some suffix does
suffix-reached : (xs : List ℤ) → (k : ℕ) × (k ≤ length xs) × (height_of (walk_of xs) ≡ sum_of (drop k xs))
suffix-reached [] = (0, omega arith, refl)
suffix-reached (x ∷ xs) =
    let rest = suffix-reached xs in
    elim (height_is (one_step x) (walk_of xs) (one_way x)) [
      | inl later ↦ (suc rest.0, omega (arith, rest.1), later ∙ rest.2)
      | inr whole ↦ (0, omega arith, omega (arith, ints, whole, step_end x, end-walk_of xs))
    ]

sum_all : (xs : List ℤ) (k : ℕ) → sum_of xs ≡ sum_to xs k +ℤ sum_of (drop k xs)
sum_all xs zero = omega (arith, ints)
sum_all [] (suc k) = refl
sum_all (x ∷ xs) (suc k) = omega (arith, ints, sum_all xs k)

module _ (xs : List ℤ) (to : ℕ) where
  -- how far the sum rises on the way, at most
  abbrev pub height_from : ℕ → ℤ
  height_from place = height_of (walk_of (slice_range xs place to))

  -- what is left of a range
  left_of_range : (place k : ℕ) → place + k ≤ to → sum_to xs to ≡ sum_to xs (place + k) +ℤ sum_of (drop k (slice_range xs place to))
  left_of_range place k within =
      let part : sum_to (slice_range xs place to) k ≡ sum_to (drop place xs) k = ap sum_of (take-take k (to - place) (drop place xs) (omega arith)) in
      omega (arith, ints, sum-range xs place to (omega arith), sum_all (slice_range xs place to) k, part, sum-split xs place k)

  pub height-greatest : (place later : ℕ) → place ≤ later → later ≤ to → sum_to xs to ≤ℤ (sum_to xs later +ℤ height_from place)
  height-greatest place later order within =
      omega (arith, ints, left_of_range place (later - place) (omega arith), suffix-le (slice_range xs place to) (later - place), ap (sum_to xs) (let same : place + (later - place) ≡ later = omega arith in same))

  pub height-reached : (place : ℕ) → place ≤ to → (later : ℕ) × (place ≤ later) × (later ≤ to) × (sum_to xs to ≡ sum_to xs later +ℤ height_from place)
  height-reached place within =
      let found = suffix-reached (slice_range xs place to) in
      let k = found.0 in
      let below : place + k ≤ to = omega (arith, found.1, length-take (to - place) (drop place xs)) in
      (place + k, omega arith, below, omega (arith, ints, found.2, left_of_range place k below))

  module _ (goal : ℤ) where
    -- some sum from there on is at most the goal
    abbrev pub keeps : ℕ → Bool
    keeps place = le_z (sum_to xs to -ℤ height_from place) goal

    pub keeps-falls : (place earlier : ℕ) → earlier ≤ place → place ≤ to → keeps place ≡ true → keeps earlier ≡ true
    keeps-falls place earlier order within holds =
        let high = height-reached place within in
        true_le (sum_to xs to -ℤ height_from earlier) goal (omega (arith, ints, high.3, height-greatest earlier high.0 (omega (arith, high.1)) high.2, le_true (sum_to xs to -ℤ height_from place) goal holds))

    pub above_all : (place later : ℕ) → place ≤ later → later ≤ to → keeps place ≡ false → goal <ℤ sum_to xs later
    above_all place later order within fails = omega (arith, ints, height-greatest place later order within, le_false (sum_to xs to -ℤ height_from place) goal fails)

    pub reached_there : (place : ℕ) → place ≤ to → keeps place ≡ true → ((later : ℕ) → place < later → later ≤ to → keeps later ≡ false) → sum_to xs place ≤ℤ goal
    reached_there place within holds not_after =
        let high = height-reached place within in
        elim (cases_lt place high.0) [
          | inl after ↦ absurd (omega (arith, ints, high.3, le_true (sum_to xs to -ℤ height_from place) goal holds, above_all high.0 high.0 (omega arith) high.2 (not_after high.0 after high.2)))
          | inr same ↦ omega (arith, ints, le_true (sum_to xs to -ℤ height_from place) goal holds, high.3, ap (sum_to xs) (let equal : high.0 ≡ place = omega (arith, high.1) in equal))
        ]
