-- From each place on the sum of the weights is first at its lowest point at the next bridge: the sums are never below 0, and
-- after all rows the sum is 0.
use Rattle.std.proofs.Common.{◌≡◌, ℕ, ◌+◌, ◌-◌, ◌<◌, ◌≤◌, ℤ, pos, neg_ℤ, ◌+ℤ◌, ◌≤ℤ◌, ◌<ℤ◌, true, false, List, drop, length, inl, inr, sym, ap, ◌∙◌, arith, subst, length-drop}
use Rattle.std.proofs.lemmas.Bool.{cases_lt}
use Rattle.std.proofs.lemmas.Bool.Decides.{nat_tests}
use Rattle.std.proofs.lemmas.Int.{ints}
use Rattle.std.proofs.lemmas.List.{length-map}
use Rattle.std.specs.List.{slice_range}
use Rattle.monoid_laws.specs.Extreme.{Extreme}
use Rattle.monoid_laws.specs.Summed.{sum_to}
use Rattle.monoid_laws.specs.PrefixSumLaws.{sum-split}
use Rattle.retro_base.specs.declared.row.Entry.{Entry}
use Rattle.retro_base.specs.Bridges.{survivors, IsBridge, IsLastBridge, IsFirstBridge}
use Rattle.retro_base.specs.Carried.{IsPqHistory}
use Rattle.retro_base.specs.Weights.{sum_of_weights}
use Rattle.retro_base.specs.lemmas.bridges.Weighing.{bridge_is_zero, sum_not_negative}
use Rattle.retro_base.specs.lemmas.bridges.StatedBridges.{start_is_bridge, end_is_bridge}
use Rattle.weighted_tree.specs.Search.{HoldsNowhere, IsLastPlace}
use Rattle.bridge_pq.specs.declared.marked_row.MarkedRow.{MarkedRow}
use Rattle.bridge_pq.specs.Dips.{Dip, falls_in, place_in, dip_of, lowest_from, is_lowest_up_to}
use Rattle.bridge_pq.specs.MarkedRows.{rows_of, AreMarked, weights_of}
use Rattle.bridge_pq.proofs.LowestPlaces.{IsFirstLowest, first_lowest}
use Rattle.bridge_pq.specs.EntryOrder.{entry_order}
use Rattle.bridge_pq.proofs.RowExtremes.{range-after}
use Rattle.bridge_pq.proofs.RowMeasures.{measures_of, dip-after, sums-are}

none_left : (z : ℤ) → pos 0 ≤ℤ z → z ≤ℤ pos 0 → z ≡ pos 0
none_left z low high = omega (arith, ints)

some_left : (z : ℤ) → pos 0 <ℤ z → z ≡ pos 0 → ⊥
some_left z some none = omega (arith, ints)

holds_up_to : (xs : List ℤ) (to place : ℕ) → is_lowest_up_to xs to place ≡ true → lowest_from xs place ≤ to
holds_up_to xs to place holds = grind (arith, nat_tests)

fails_up_to : (xs : List ℤ) (to place : ℕ) → is_lowest_up_to xs to place ≡ false → to < lowest_from xs place
fails_up_to xs to place fails = grind (arith, nat_tests)

up_to_holds : (xs : List ℤ) (to place : ℕ) → lowest_from xs place ≤ to → is_lowest_up_to xs to place ≡ true
up_to_holds xs to place within = grind (arith, nat_tests)

-- the sums after a place
module _ (xs : List ℤ) (place : ℕ) where
  abbrev depth : ℕ
  depth = falls_in (dip_of (drop place xs)).low

  lowest : IsFirstLowest (drop place xs) (place_in (dip_of (drop place xs)).low) depth
  lowest = first_lowest (drop place xs)

  after : (other : ℕ) → place ≤ other → sum_to xs other ≡ sum_to xs place +ℤ sum_to (drop place xs) (other - place)
  after other order = ap (sum_to xs) (let same : other ≡ place + (other - place) = omega arith in same) ∙ sum-split xs place (other - place)

  sum_there : sum_to xs (lowest_from xs place) ≡ sum_to xs place +ℤ neg_ℤ (pos depth)
  sum_there = sum-split xs place (place_in (dip_of (drop place xs)).low) ∙ ap (λ z. sum_to xs place +ℤ z) lowest.there

  pub sum_least : (other : ℕ) → place ≤ other → sum_to xs (lowest_from xs place) ≤ℤ sum_to xs other
  sum_least other order = omega (arith, ints, sum_there, after other order, lowest.least (other - place))

  pub sum_first : (other : ℕ) → place ≤ other → other < lowest_from xs place → sum_to xs (lowest_from xs place) <ℤ sum_to xs other
  sum_first other order before = omega (arith, ints, sum_there, after other order, lowest.first (other - place) (omega arith))

  pub from_within : place ≤ length xs → lowest_from xs place ≤ length xs
  from_within within = omega (arith, lowest.within, length-drop place xs)

-- from an earlier place on it is no later
order_of : (a b : ℤ) → a ≤ℤ b → b <ℤ a → ⊥
order_of a b upto above = omega (arith, ints)

pub lowest-rises : (xs : List ℤ) (earlier place : ℕ) → earlier ≤ place → lowest_from xs earlier ≤ lowest_from xs place
lowest-rises xs earlier place order = elim (cases_lt (lowest_from xs place) (lowest_from xs earlier)) [
  | inl before ↦ absurd (order_of (sum_to xs (lowest_from xs place)) (sum_to xs (lowest_from xs earlier))
      (sum_least xs place (lowest_from xs earlier) (omega arith))
      (sum_first xs earlier (lowest_from xs place) (omega arith) before))
  | inr upto ↦ upto
]

pub lowest-falls : (xs : List ℤ) (to place earlier : ℕ) → earlier ≤ place → is_lowest_up_to xs to place ≡ true → is_lowest_up_to xs to earlier ≡ true
lowest-falls xs to place earlier order holds = up_to_holds xs to earlier (let upto : lowest_from xs earlier ≤ to = omega (arith, lowest-rises xs earlier place order, holds_up_to xs to place holds) in upto)

none_between : (place other : ℕ) → place < other → other ≤ place → ⊥
none_between place other after upto = omega arith

-- what is measured from a place on tells it
pub lowest-after : (items : List MarkedRow) (place end low : ℕ) (m : Dip × (Extreme Entry × Extreme Entry)) → place ≤ length items → end ≡ length items
    → m ≡ measures_of entry_order (slice_range items place end) → low ≡ place_in m.0.low → place + low ≡ lowest_from (weights_of items) place
lowest-after items place end low m within is_end measured is =
    ap (λ n. place + n) (is
    ∙ ap (λ v. place_in v.0.low) measured
    ∙ ap (λ l. place_in (measures_of entry_order l).0.low) (ap (slice_range items place) is_end ∙ range-after items place within)
    ∙ ap (λ d. place_in d.low) (dip-after entry_order items place))

module _ (items : List MarkedRow) (history : IsPqHistory (rows_of items)) (marked : AreMarked (survivors (rows_of items)) items) where
  abbrev sum : ℕ → ℤ
  sum place = sum_to (weights_of items) place

  abbrev next : ℕ → ℕ
  next place = lowest_from (weights_of items) place

  sum_is : (place : ℕ) → sum place ≡ sum_of_weights (rows_of items) place
  sum_is place = sums-are items place marked

  never_negative : (place : ℕ) → pos 0 ≤ℤ sum place
  never_negative place = subst (λ z. pos 0 ≤ℤ z) (sym (sum_is place)) (sum_not_negative (rows_of items) place history)

  zero_is_bridge : (place : ℕ) → sum place ≤ℤ pos 0 → IsBridge (rows_of items) place
  zero_is_bridge place low = (bridge_is_zero (rows_of items) place history).1 (sym (sum_is place) ∙ none_left (sum place) (never_negative place) low)

  bridge_sum : (place : ℕ) → IsBridge (rows_of items) place → sum place ≡ pos 0
  bridge_sum place bridge = sum_is place ∙ (bridge_is_zero (rows_of items) place history).0 bridge

  rows_length : length (rows_of items) ≡ length items
  rows_length = simp length-map

  weights_length : length (weights_of items) ≡ length items
  weights_length = simp length-map

  end_sum : sum (length items) ≡ pos 0
  end_sum = bridge_sum (length items) (subst (IsBridge (rows_of items)) rows_length (end_is_bridge (rows_of items)))

  -- the place after all rows is the last bridge up to itself
  pub last-end : (place : ℕ) → place ≡ length items → IsLastBridge (rows_of items) place place
  last-end place end = record {
    within = omega arith;
    bridges = subst (IsBridge (rows_of items)) (rows_length ∙ sym end) (end_is_bridge (rows_of items));
    last = λ other after upto. absurd (none_between place other after upto);
  }

  pub next-bridge : (place : ℕ) → place ≤ length items → IsFirstBridge (rows_of items) place (next place)
  next-bridge place within = record {
    from = omega arith;
    within = omega (arith, from_within (weights_of items) place, weights_length, rows_length, within);
    bridges = zero_is_bridge (next place) (subst (λ z. sum (next place) ≤ℤ z) end_sum (sum_least (weights_of items) place (length items) within));
    first = λ other above before bridge. some_left (sum other)
        (omega (arith, ints, never_negative (next place), sum_first (weights_of items) place other above before)) (bridge_sum other bridge);
  }

  module _ (to : ℕ) (within : to ≤ length items) where
    -- a bridge up to there is one at which the test holds
    no_bridge : (other : ℕ) → other ≤ to → is_lowest_up_to (weights_of items) to other ≡ false → ¬ IsBridge (rows_of items) other
    no_bridge other upto fails = (next-bridge other (omega arith)).first other (omega arith) (omega (arith, fails_up_to (weights_of items) to other fails))

    module _ (place : ℕ) (last : IsLastPlace (is_lowest_up_to (weights_of items) to) (length items) place) where
      next_within : next place ≤ to
      next_within = holds_up_to (weights_of items) to place last.holds_there

      found : IsFirstBridge (rows_of items) place (next place)
      found = next-bridge place last.within

      -- were it before the bridge, the test would hold at the bridge too
      is_next : next place ≡ place
      is_next = elim (cases_lt place (next place)) [
        | inl before ↦ absurd (no_bridge (next place) next_within (last.not_after (next place) before (omega (arith, next_within))) found.bridges)
        | inr upto ↦ omega (arith, found.from)
      ]

      pub last-found : IsLastBridge (rows_of items) to place
      last-found = record {
        within = omega (arith, next_within, found.from);
        bridges = subst (IsBridge (rows_of items)) is_next found.bridges;
        last = λ other after upto. no_bridge other upto (last.not_after other after (omega arith));
      }

    pub last-there : HoldsNowhere (is_lowest_up_to (weights_of items) to) 0 (length items) → ⊥
    last-there nowhere = no_bridge 0 (omega arith) (nowhere 0 (omega arith) (omega arith)) (start_is_bridge (rows_of items))
