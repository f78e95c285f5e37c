-- From where a search of the tree turns to the place that was asked for.
use Rattle.std.proofs.Common.{◌≡◌, ℕ, suc, ◌-◌, ◌<◌, ◌≤◌, ℤ, pos, Bool, true, false, List, take, length, ap, arith, inl, inr}
use Rattle.std.proofs.lemmas.Bool.{cases_lt}
use Rattle.std.proofs.lemmas.Int.{ints}
use Rattle.std.proofs.lemmas.List.{take_all}
use Rattle.std.specs.Int.Signed.{lt_z}
use Rattle.weighted_tree.specs.Search.{HoldsNowhere, IsFirstPlace, IsLastPlace, IsRising}
use Rattle.prefix_trees.specs.SignPrefixes.{signs_of, IsFirstAtMost, IsLastAtMost, NoneAtMost, marks_in, IsKthMarked}
use Rattle.prefix_trees.specs.SignWalks.{falls_to, keeps_at, has_more_marks}
use Rattle.monoid_laws.specs.PrefixSumLaws as prefixes
use Rattle.monoid_laws.specs.SuffixSumLaws as suffixes
use Rattle.prefix_trees.specs.MarkLaws.{marks-rise, kth-is}

module _ (items : List (ℤ × Bool)) (from to : ℕ) (value : ℤ) where
  -- no sum falls to the value
  pub none-falls : (end : ℕ) → to ≤ end → HoldsNowhere (falls_to items from value) from end → NoneAtMost items from to value
  none-falls end within nowhere place above below =
      prefixes.above_all (signs_of items) from value place place above (omega arith) (nowhere place above (omega arith))

  pub first-falls : (end place : ℕ) → IsFirstPlace (falls_to items from value) from end place → place ≤ to → IsFirstAtMost items from to value place
  first-falls end place first within = record {
    above = first.above;
    within = within;
    reached = prefixes.reached_there (signs_of items) from value place first.above first.holds_there first.not_before;
    not_before = λ earlier above before. prefixes.above_all (signs_of items) from value earlier earlier above (omega arith) (first.not_before earlier above before);
  }

  -- the first one stands beyond
  pub falls-beyond : (end place : ℕ) → IsFirstPlace (falls_to items from value) from end place → to < place → NoneAtMost items from to value
  falls-beyond end place first beyond earlier above below =
      prefixes.above_all (signs_of items) from value earlier earlier above (omega arith) (first.not_before earlier above (omega arith))

  pub none-keeps : HoldsNowhere (keeps_at items to value) 0 to → NoneAtMost items from to value
  none-keeps nowhere place above below =
      suffixes.above_all (signs_of items) to value place place (omega arith) below (nowhere place (omega arith) below)

  pub last-keeps : (place : ℕ) → IsLastPlace (keeps_at items to value) to place → from ≤ place → IsLastAtMost items from to value place
  last-keeps place last above = record {
    above = above;
    within = last.within;
    reached = suffixes.reached_there (signs_of items) to value place last.within last.holds_there last.not_after;
    not_after = λ later after below. suffixes.above_all (signs_of items) to value later later (omega arith) below (last.not_after later after below);
  }

  pub keeps-before : (place : ℕ) → IsLastPlace (keeps_at items to value) to place → place < from → NoneAtMost items from to value
  keeps-before place last before later above below =
      suffixes.above_all (signs_of items) to value later later (omega arith) below (last.not_after later (omega arith) below)

more_is : (k m : ℕ) → lt_z (pos k) (pos m) ≡ true → k < m
more_is k m more = grind (arith, ints)

no_more : (k m : ℕ) → lt_z (pos k) (pos m) ≡ false → m ≤ k
no_more k m few = grind (arith, ints)

is_more : (k m : ℕ) → k < m → lt_z (pos k) (pos m) ≡ true
is_more k m more = grind (arith, ints)

module _ (items : List (ℤ × Bool)) (k : ℕ) where
  pub more-rises : (to : ℕ) → IsRising (has_more_marks items (pos k)) 0 to
  more-rises to place later above order within holds =
      is_more k (marks_in (take later items)) (omega (arith, more_is k (marks_in (take place items)) holds, marks-rise items place later order))

  pub none-more : HoldsNowhere (has_more_marks items (pos k)) 0 (length items) → marks_in items ≤ k
  none-more nowhere =
      omega (arith, no_more k (marks_in (take (length items) items)) (nowhere (length items) (omega arith) (omega arith)), ap marks_in (take_all (length items) items (omega arith)))

  pub some-more : (place : ℕ) → IsFirstPlace (has_more_marks items (pos k)) 0 (length items) place → 1 ≤ place
  some-more place first = elim (cases_lt 0 place) [
    | inl some ↦ some
    | inr none ↦ absurd (omega (arith, more_is k (marks_in (take place items)) first.holds_there, ap (λ n. marks_in (take n items)) (let same : place ≡ 0 = omega arith in same)))
  ]

  pub kth-before : (place : ℕ) → IsFirstPlace (has_more_marks items (pos k)) 0 (length items) place → IsKthMarked items k (place - 1)
  kth-before place first =
      let some = some-more place first in
      kth-is items k (place - 1)
      (no_more k (marks_in (take (place - 1) items)) (first.not_before (place - 1) (omega arith) (omega arith)))
      (omega (arith, more_is k (marks_in (take place items)) first.holds_there, ap (λ n. marks_in (take n items)) (let same : place ≡ suc (place - 1) = omega arith in same)))
