-- The turns of a search by halves.
use Rattle.std.proofs.Common.{◌≡◌, ℕ, ◌+◌, ◌*◌, ◌^◌, ◌<◌, ◌≤◌, false, List, length, arith, subst, sym}
use Rattle.std.specs.List.{AllWithin}
use Rattle.retro_base.specs.declared.row.Entry.{Entry}
use Rattle.retro_base.specs.State.{comes_before}
use Rattle.retro_base.specs.lemmas.CountedEntries.{with_length}
use Rattle.pq_fusion.specs.declared.bound.Bound.{Bound}
use Rattle.pq_fusion.specs.declared.bound.Bound.TheVariants.{Low, At, Top}
use Rattle.pq_fusion.specs.Bounds.{with_bound}
use Rattle.pq_fusion.specs.Exchanges.{IsPlaceOf}
use Rattle.pq_fusion.specs.Searches.{SearchesWithin, VisitsUpTo}
use Rattle.pq_fusion.proofs.Searched.{IsLeft, IsNarrowed, half_left}

-- a search among so many, of which these are left
pub record IsTurning (count width start steps : ℕ) : Type 0 where
  pub none_lost : start ≤ steps
  pub visits : (k : ℕ) → count < 2 ^ k → IsLeft width start steps k

pub turning_starts : (count width start : ℕ) → width ≤ count → IsTurning count width start start
turning_starts count width start within = record {
  none_lost = omega arith;
  visits = λ k small. record { turns = k; narrow = omega (arith, small, within); few = omega arith };
}

pub turning_next : (count width start steps next more : ℕ) → 0 < width → next + next ≤ width → more ≡ steps + 1 → IsTurning count width start steps → IsTurning count next start more
turning_next count width start steps next more some half one turning = record {
  none_lost = omega (arith, turning.none_lost, one);
  visits = λ k small. subst (λ n. IsLeft next start n k) (sym one) (half_left width start steps k some (turning.visits k small) next half);
}

pub turning_ends : (count width start steps : ℕ) → IsTurning count width start steps → (k : ℕ) → count < 2 ^ k → VisitsUpTo (1 * k) start steps
turning_ends count width start steps turning k small = let left = turning.visits k small in record { none_lost = turning.none_lost; few = omega (arith, left.few) }

-- the place that a search ends at
pub narrowed_place : (bound : Entry) (xs : List Entry) (low high start steps : ℕ) → IsNarrowed bound xs low high start steps → high ≤ low → IsPlaceOf bound xs low
narrowed_place bound xs low high start steps narrowed over =
    let same : high ≡ low = omega (arith, narrowed.order, over) in record {
      within = omega (arith, narrowed.order, narrowed.within);
      before = narrowed.before;
      from = subst (λ n. AllWithin (λ y. comes_before y bound ≡ false) xs n (length xs)) same narrowed.after;
    }

-- one search after another
pub searches_joined : (times more first second all start between end : ℕ) → first ≤ all → second ≤ all → SearchesWithin times first start between → SearchesWithin more second between end
    → SearchesWithin (times + more) all start end
searches_joined times more first second all start between end first_few second_few one two = λ k small.
    let before = one k (omega (arith, first_few, small)) in
    let after = two k (omega (arith, second_few, small)) in
    record { none_lost = omega (arith, before.none_lost, after.none_lost); few = omega (arith, before.few, after.few) }

pub bound_few : (b : Bound) (xs : List Entry) → length (with_bound b xs) ≤ length xs + 1
bound_few Low xs = omega arith
bound_few (At e) xs = omega (arith, with_length e xs)
bound_few Top xs = omega arith
