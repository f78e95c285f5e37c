-- A search of a rising list by halves, with its turns counted, and the visits of a walk down the tree.
use Rattle.std.proofs.Common.{◌≡◌, ℕ, zero, suc, ◌+◌, ◌-◌, ◌*◌, ◌/◌, ◌^◌, ◌<◌, ◌≤◌, inl, inr, true, false, List, [], ◌∷◌, length, get_or, refl, ap, sym, ◌∙◌, arith}
use Rattle.std.specs.List.{AllWithin}
use Rattle.std.proofs.lemmas.Bool.{cases_lt}
use Rattle.std.proofs.lemmas.Nat.{pow-add}
use Rattle.retro_base.specs.declared.row.Entry.{Entry}
use Rattle.retro_base.specs.EntriesInOrder.{AreInOrder}
use Rattle.retro_base.specs.State.{comes_before}
use Rattle.retro_base.specs.lemmas.EntrySteps.{partitioned}
use Rattle.retro_base.specs.declared.row.Row.{Row}
use Rattle.pq_fusion.specs.declared.subtree.Pair.{Pair}
use Rattle.pq_fusion.specs.Nodes.{weight, IsPairOf, IsWithinLevels}
use Rattle.pq_fusion.specs.Pieces.{PieceParts, size_of, tolerant}
use Rattle.pq_fusion.specs.Searches.{SearchesList, SearchesPiece, StepsWithin, VisitsUpTo}
use Rattle.pq_fusion.proofs.Pairs.{sizes, some_earlier, some_later}
use Rattle.pq_fusion.proofs.Sizes.{rows_size}

-- what is left of a search, and the turns that it may still take
pub record IsLeft (width start steps k : ℕ) : Type 0 where
  pub turns : ℕ
  pub narrow : width < 2 ^ turns
  pub few : steps + turns ≤ start + k

pub record IsNarrowed (bound : Entry) (xs : List Entry) (low high start steps : ℕ) : Type 0 where
  pub order : low ≤ high
  pub within : high ≤ length xs
  pub before : AllWithin (λ y. comes_before y bound ≡ true) xs 0 low
  pub after : AllWithin (λ y. comes_before y bound ≡ false) xs high (length xs)
  pub none_lost : start ≤ steps
  pub visits : (k : ℕ) → length xs < 2 ^ k → IsLeft (high - low) start steps k

pub narrowed_starts : (bound : Entry) (xs : List Entry) (steps : ℕ) → IsNarrowed bound xs 0 (length xs) steps steps
narrowed_starts bound xs steps = record {
  order = omega arith;
  within = omega arith;
  before = λ k d from to. absurd (omega arith);
  after = λ k d from to. absurd (omega arith);
  none_lost = omega arith;
  visits = λ k small. record { turns = k; narrow = omega (arith, small); few = omega arith };
}

same_get : (xs : List Entry) (n : ℕ) (d e : Entry) → n < length xs → get_or xs n d ≡ get_or xs n e
same_get [] n d e within = absurd (omega arith)
same_get (x ∷ xs) zero d e within = refl
same_get (x ∷ xs) (suc n) d e within = same_get xs n d e (omega arith)

pub half_left : (width start steps k : ℕ) → 0 < width → IsLeft width start steps k → (next : ℕ) → next + next ≤ width → IsLeft next start (steps + 1) k
half_left width start steps k some left next half = by left.turns left.narrow left.few
  where
    by : (turns : ℕ) → width < 2 ^ turns → steps + turns ≤ start + k → IsLeft next start (steps + 1) k
    by zero narrow few = absurd (omega (arith, narrow))
    by (suc turns) narrow few = record { turns = turns; narrow = omega (arith, narrow, pow-add 2 turns 1); few = omega (arith, few) }

module _ (bound : Entry) (xs : List Entry) (low high start steps middle : ℕ) (d : Entry) (order : AreInOrder xs) (narrowed : IsNarrowed bound xs low high start steps)
    (some : low < high) (middle_is : middle ≡ low + (high - low) / 2) where
  inside : middle < length xs
  inside = omega (arith, narrowed.within, middle_is)

  pub narrowed_upper : comes_before (get_or xs middle d) bound ≡ true → IsNarrowed bound xs (middle + 1) high start (steps + 1)
  narrowed_upper here = record {
    order = omega (arith, middle_is);
    within = narrowed.within;
    before = λ k e from to. partitioned bound xs order k middle e (omega arith) inside (ap (λ y. comes_before y bound) (same_get xs middle e d inside) ∙ here);
    after = narrowed.after;
    none_lost = omega (arith, narrowed.none_lost);
    visits = λ k small. half_left (high - low) start steps k (omega arith) (narrowed.visits k small) (high - (middle + 1)) (omega (arith, middle_is));
  }

  pub narrowed_lower : comes_before (get_or xs middle d) bound ≡ false → IsNarrowed bound xs low middle start (steps + 1)
  narrowed_lower here = record {
    order = omega (arith, middle_is);
    within = omega (arith, inside);
    before = narrowed.before;
    after = λ k e from to.
        elim (comes_before (get_or xs k e) bound) as (λ t. comes_before (get_or xs k e) bound ≡ t → t ≡ false) [
          | true ↦ λ yes.
              let wrong : true ≡ false =
              sym (partitioned bound xs order middle k e (omega arith) (omega arith) yes) ∙ ap (λ y. comes_before y bound) (same_get xs middle e d inside) ∙ here in
              absurd (cc)
          | false ↦ λ no. refl
        ] refl;
    none_lost = omega (arith, narrowed.none_lost);
    visits = λ k small. half_left (high - low) start steps k (omega arith) (narrowed.visits k small) (middle - low) (omega (arith, middle_is));
  }

pub narrowed_visits : (bound : Entry) (xs : List Entry) (low high start steps : ℕ) → IsNarrowed bound xs low high start steps → (k : ℕ) → length xs < 2 ^ k → VisitsUpTo (1 * k) start steps
narrowed_visits bound xs low high start steps narrowed k small =
    let left = narrowed.visits k small in
    record { none_lost = narrowed.none_lost; few = omega (arith, left.few) }

-- one visit, and some more
pub after_one : (most start next end : ℕ) → next ≡ start + 1 → VisitsUpTo most next end → VisitsUpTo (1 + most) start end
after_one most start next end one rest = record { none_lost = omega (arith, one, rest.none_lost); few = omega (arith, one, rest.few) }

pub no_more_than : (most more start end : ℕ) → most ≤ more → VisitsUpTo most start end → VisitsUpTo more start end
no_more_than most more start end less visits = record { none_lost = visits.none_lost; few = omega (arith, visits.few, less) }

-- the lists of a piece have together no more entries than its rows are
pub piece_few : (rows : List Row) (piece : PieceParts) → piece ≡ tolerant rows → (k : ℕ) → length rows < 2 ^ k → length piece.left + length piece.removed < 2 ^ k
piece_few rows piece is k small = omega (arith, ap size_of is, rows_size rows, small)

-- either of two lists that have together so few has fewer than half as many
pub both_searched : (first second start between end : ℕ) → SearchesList first start between → SearchesList second between end → SearchesPiece 0 (second + first) start end
both_searched first second start between end one two zero small =
    let own = one 0 (omega (arith, small)) in
    let other = two 0 (omega (arith, small)) in
    record { none_lost = omega (arith, own.none_lost, other.none_lost); few = omega (arith, own.few, other.few) }
both_searched first second start between end one two (suc k) small = elim (cases_lt first (2 ^ k)) [
  | inl less ↦
      let own = one k less in
      let other = two (suc k) (omega (arith, small)) in
      record { none_lost = omega (arith, own.none_lost, other.none_lost); few = omega (arith, own.few, other.few) }
  | inr more ↦
      let own = one (suc k) (omega (arith, small)) in
      let other = two k (omega (arith, small, more, pow-add 2 k 1)) in
      record { none_lost = omega (arith, own.none_lost, other.none_lost); few = omega (arith, own.few, other.few) }
]

-- at a node that is opened
pub opened : (entries start next end : ℕ) → next ≡ start + 1 → SearchesPiece 0 entries next end → SearchesPiece 1 entries start end
opened entries start next end one visits k small =
    let all = visits k small in
    record { none_lost = omega (arith, one, all.none_lost); few = omega (arith, one, all.few) }

-- a walk at a pair that goes through no rows, to its earlier side or past it
module _ (rows : List Row) (pair : Pair) (root : IsPairOf rows pair) where
  pub step_left : (levels start next end : ℕ) → IsWithinLevels (weight rows) levels → next ≡ start + 1 → StepsWithin pair.earlier.rows next end
      → VisitsUpTo ((levels + 1) * 2) start end
  step_left zero start next end within one rest = absurd (omega (arith, within, sizes rows pair root, some_earlier rows pair root))
  step_left (suc levels) start next end within one rest =
      let below = rest levels (within (weight pair.earlier.rows) (omega (arith, sizes rows pair root, root.sound.balanced.earlier_light))) in
      record { none_lost = omega (arith, one, below.none_lost); few = omega (arith, one, below.few) }

  pub step_right : (levels start next end : ℕ) → IsWithinLevels (weight rows) levels → next ≡ start + 1 → StepsWithin pair.later.rows next end
      → VisitsUpTo ((levels + 1) * 2) start end
  step_right zero start next end within one rest = absurd (omega (arith, within, sizes rows pair root, some_later rows pair root))
  step_right (suc levels) start next end within one rest =
      let below = rest levels (within (weight pair.later.rows) (omega (arith, sizes rows pair root, root.sound.balanced.later_light))) in
      record { none_lost = omega (arith, one, below.none_lost); few = omega (arith, one, below.few) }

-- one visit more, of a loop
pub visits_more : (n start steps end : ℕ) → end ≡ steps + 1 → VisitsUpTo n start steps → VisitsUpTo (n + 1) start end
visits_more n start steps end one visits = record { none_lost = omega (arith, one, visits.none_lost); few = omega (arith, one, visits.few) }

pub no_change : (start end : ℕ) → end ≡ start → VisitsUpTo 0 start end
no_change start end same = record { none_lost = omega (arith, same); few = omega (arith, same) }

-- a search by halves, of which each turn has a cost of its own
pub record IsSought (width cost turns start steps : ℕ) : Type 0 where
  pub left : ℕ
  pub narrow : width < 2 ^ left
  pub few : steps + left * cost ≤ start + turns * cost
  pub none_lost : start ≤ steps

pub sought_starts : (width cost turns start : ℕ) → width < 2 ^ turns → IsSought width cost turns start start
sought_starts width cost turns start narrow = record { left = turns; narrow = narrow; few = omega arith; none_lost = omega arith }

pub sought_more : (width cost turns start steps next end : ℕ) → 0 < width → IsSought width cost turns start steps → next + next ≤ width → VisitsUpTo cost steps end
    → IsSought next cost turns start end
sought_more width cost turns start steps next end some sought half visits = by sought.left sought.narrow sought.few
  where
    by : (left : ℕ) → width < 2 ^ left → steps + left * cost ≤ start + turns * cost → IsSought next cost turns start end
    by zero narrow few = absurd (omega (arith, narrow))
    by (suc left) narrow few = record {
      left = left;
      narrow = omega (arith, narrow, half, pow-add 2 left 1);
      few = omega (arith, few, visits.few);
      none_lost = omega (arith, sought.none_lost, visits.none_lost);
    }

pub sought_ends : (width cost turns start steps : ℕ) → IsSought width cost turns start steps → VisitsUpTo (turns * cost) start steps
sought_ends width cost turns start steps sought = record { none_lost = sought.none_lost; few = omega (arith, sought.few) }
