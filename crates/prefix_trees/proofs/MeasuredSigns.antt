-- What the tree measures of a range of signs, in the words of their sums.
use Rattle.std.proofs.Common.{◌≡◌, ℕ, zero, suc, ◌+◌, ◌-◌, ℤ, pos, Bool, true, false, List, [], ◌∷◌, take, drop, refl, ap, ◌∙◌, arith}
use Rattle.std.specs.Prelude.{if◌then◌else◌}
use Rattle.std.proofs.lemmas.Int.{ints}
use Rattle.std.specs.List.{slice_range}
use Rattle.monoid_laws.specs.Walk.{Walk, no_walk, one_step, joined_walk, walk_of, end_of}
use Rattle.monoid_laws.specs.WalkLaws.{end-walk_of}
use Rattle.monoid_laws.specs.Both.{joined_both}
use Rattle.monoid_laws.specs.Measure.{measure_of}
use Rattle.monoid_laws.specs.Summed.{sum_of}
use Rattle.prefix_trees.specs.SignPrefixes.{signs_of, prefix, marks_in}
use Rattle.prefix_trees.specs.SignWalks.{one_walk}

-- the walks of these items
abbrev pub walks_of : List (ℤ × Bool) → Walk × Walk
walks_of items = measure_of (no_walk, no_walk) (joined_both joined_walk joined_walk) one_walk items

pub first-walks : (items : List (ℤ × Bool)) → (walks_of items).0 ≡ walk_of (signs_of items)
first-walks [] = refl
first-walks (item ∷ items) = ap (joined_walk (one_step item.0)) (first-walks items)

signs-take : (items : List (ℤ × Bool)) (place : ℕ) → signs_of (take place items) ≡ take place (signs_of items)
signs-take items zero = refl
signs-take [] (suc place) = refl
signs-take (item ∷ items) (suc place) = ap (λ xs. item.0 ∷ xs) (signs-take items place)

signs-drop : (items : List (ℤ × Bool)) (place : ℕ) → signs_of (drop place items) ≡ drop place (signs_of items)
signs-drop items zero = refl
signs-drop [] (suc place) = refl
signs-drop (item ∷ items) (suc place) = signs-drop items place

-- the walk of a range of signs
pub range-walk : (items : List (ℤ × Bool)) (from to : ℕ) → (walks_of (slice_range items from to)).0 ≡ walk_of (slice_range (signs_of items) from to)
range-walk items from to = first-walks (slice_range items from to) ∙ ap walk_of (signs-take (drop from items) (to - from) ∙ ap (take (to - from)) (signs-drop items from))

-- the sum of the first signs
pub prefix-is : (items : List (ℤ × Bool)) (place : ℕ) → end_of (walks_of (slice_range items 0 place)).0 ≡ prefix items place
prefix-is items place =
    ap end_of (range-walk items 0 place) ∙ end-walk_of (slice_range (signs_of items) 0 place) ∙ ap (λ n. sum_of (take n (signs_of items))) (let same : place - 0 ≡ place = omega arith in same)

mark_end : (b : Bool) (walk : Walk) (m : ℕ) → end_of walk ≡ pos m → end_of (joined_walk (one_step (pos (if b then 1 else 0))) walk) ≡ pos ((if b then 1 else 0) + m)
mark_end true walk m is = omega (arith, ints)
mark_end false walk m is = omega (arith, ints)

marks_end : (items : List (ℤ × Bool)) → end_of (walks_of items).1 ≡ pos (marks_in items)
marks_end [] = refl
marks_end (item ∷ items) = mark_end item.1 (walks_of items).1 (marks_in items) (marks_end items)

-- the number of the first marks
pub marks-is : (items : List (ℤ × Bool)) (place : ℕ) → end_of (walks_of (slice_range items 0 place)).1 ≡ pos (marks_in (take place items))
marks-is items place = marks_end (slice_range items 0 place) ∙ ap (λ n. pos (marks_in (take n items))) (let same : place - 0 ≡ place = omega arith in same)
