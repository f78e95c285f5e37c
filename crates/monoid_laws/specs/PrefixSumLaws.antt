-- The first place at which a prefix sum is at most a value, by the lowest points of the walks from a place on. These laws
-- stand here for the layers above: their proofs cite them.
use Rattle.std.proofs.Common.{◌≡◌, ℕ, zero, suc, ◌+◌, ◌-◌, ◌<◌, ◌≤◌, ℤ, pos, ◌+ℤ◌, ◌≤ℤ◌, ◌<ℤ◌, Bool, true, false, List, [], ◌∷◌, take, drop, refl, ap, ◌∙◌, arith, inl, inr, length-take}
use Rattle.std.proofs.lemmas.Bool.{cases_lt}
use Rattle.std.proofs.lemmas.Int.{ints}
use Rattle.std.proofs.lemmas.List.{take-take, take_all}
use Rattle.std.specs.List.{slice_range}
use Rattle.std.specs.Int.Signed.{le_z}
use Rattle.monoid_laws.specs.Summed.{sum_of, sum_to}
use Rattle.monoid_laws.specs.Walk.{walk_of, lowest_of}
use Rattle.monoid_laws.specs.WalkLaws.{lowest-walk_of}

pub le_true : (a b : ℤ) → le_z a b ≡ true → a ≤ℤ b
le_true a b holds = grind (arith, ints)

pub le_false : (a b : ℤ) → le_z a b ≡ false → b <ℤ a
le_false a b fails = grind (arith, ints)

pub true_le : (a b : ℤ) → a ≤ℤ b → le_z a b ≡ true
true_le a b order = grind (arith, ints)

no_numbers : (place : ℕ) → sum_to [] place ≡ pos 0
no_numbers zero = refl
no_numbers (suc place) = refl

-- a sum in two parts
pub sum-split : (xs : List ℤ) (from count : ℕ) → sum_to xs (from + count) ≡ sum_to xs from +ℤ sum_to (drop from xs) count
sum-split xs zero count = omega (arith, ints, ap (sum_to xs) (let same : 0 + count ≡ count = omega arith in same))
sum-split [] (suc from) count = omega (arith, ints, no_numbers (suc from + count), no_numbers count)
sum-split (x ∷ xs) (suc from) count = omega (arith, ints, sum-split xs from count, ap (sum_to (x ∷ xs)) (let same : suc from + count ≡ suc (from + count) = omega arith in same))

pub sum-range : (xs : List ℤ) (from to : ℕ) → from ≤ to → sum_to xs to ≡ sum_to xs from +ℤ sum_of (slice_range xs from to)
sum-range xs from to order = ap (sum_to xs) (let same : to ≡ from + (to - from) = omega arith in same) ∙ sum-split xs from (to - from)

-- the first numbers of the first numbers
take_within : (k n : ℕ) (ys : List ℤ) → (m : ℕ) × (m ≤ n) × (take k (take n ys) ≡ take m ys)
take_within k n ys = elim (cases_lt n k) [
  | inl beyond ↦ (n, omega arith, take_all k (take n ys) (omega (arith, length-take n ys)))
  | inr within ↦ (k, within, take-take k n ys within)
]

module _ (xs : List ℤ) (from : ℕ) where
  -- the lowest sum on the way from a place to another
  abbrev pub lowest_to : ℕ → ℤ
  lowest_to place = sum_to xs from +ℤ lowest_of (walk_of (slice_range xs from place))

  pub lowest-least : (place earlier : ℕ) → from ≤ earlier → earlier ≤ place → lowest_to place ≤ℤ sum_to xs earlier
  lowest-least place earlier above below =
      let part : take (earlier - from) (slice_range xs from place) ≡ slice_range xs from earlier = take-take (earlier - from) (place - from) (drop from xs) (omega arith) in
      omega (arith, ints, (lowest-walk_of (slice_range xs from place)).least (earlier - from), ap sum_of part, sum-range xs from earlier above)

  pub lowest-reached : (place : ℕ) → from ≤ place → (earlier : ℕ) × (from ≤ earlier) × (earlier ≤ place) × (lowest_to place ≡ sum_to xs earlier)
  lowest-reached place above =
      let (k, is) = (lowest-walk_of (slice_range xs from place)).reached in
      let within = take_within k (place - from) (drop from xs) in
      let m = within.0 in
      (from + m, omega arith, omega (arith, within.1), omega (arith, ints, is, ap sum_of within.2, sum-split xs from m))

  module _ (goal : ℤ) where
    -- some sum up to there is at most the goal
    abbrev pub reaches : ℕ → Bool
    reaches place = le_z (lowest_to place) goal

    pub reaches-rises : (place later : ℕ) → from ≤ place → place ≤ later → reaches place ≡ true → reaches later ≡ true
    reaches-rises place later above order holds =
        let low = lowest-reached place above in
        true_le (lowest_to later) goal (omega (arith, ints, low.3, lowest-least later low.0 low.1 (omega (arith, low.2)), le_true (lowest_to place) goal holds))

    pub above_all : (place earlier : ℕ) → from ≤ earlier → earlier ≤ place → reaches place ≡ false → goal <ℤ sum_to xs earlier
    above_all place earlier above below fails = omega (arith, ints, lowest-least place earlier above below, le_false (lowest_to place) goal fails)

    pub reached_there : (place : ℕ) → from ≤ place → reaches place ≡ true → ((earlier : ℕ) → from ≤ earlier → earlier < place → reaches earlier ≡ false) → sum_to xs place ≤ℤ goal
    reached_there place above holds not_before =
        let low = lowest-reached place above in
        elim (cases_lt low.0 place) [
          | inl before ↦ absurd (omega (arith, ints, low.3, le_true (lowest_to place) goal holds, above_all low.0 low.0 low.1 (omega arith) (not_before low.0 low.1 before)))
          | inr same ↦ omega (arith, ints, le_true (lowest_to place) goal holds, low.3, ap (sum_to xs) (let equal : low.0 ≡ place = omega (arith, low.2) in equal))
        ]
