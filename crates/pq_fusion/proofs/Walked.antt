-- The visits of an edit on its path down the tree.
use Rattle.std.proofs.Common.{◌≡◌, ℕ, zero, suc, ◌+◌, ◌*◌, ◌^◌, ◌<◌, ◌≤◌, List, ◌++◌, length, ap, arith, length-append, subst}
use Rattle.retro_base.specs.declared.row.Row.{Row}
use Rattle.costs.specs.Digits.{digits}
use Rattle.costs.specs.Visits.{VisitsWithin}
use Rattle.costs.specs.VisitsLaws.{below-digits, digits-monotone}
use Rattle.pq_fusion.specs.Nodes.{IsBalanced, IsWithinLevels, weight}
use Rattle.pq_fusion.specs.Pieces.{PieceParts, size_of, tolerant}
use Rattle.pq_fusion.specs.Searches.{EditVisits, EditedWithin, EditsWithin, SearchesBoth, SearchesWithin, StepsWithin, VisitsUpTo}
use Rattle.pq_fusion.proofs.Sizes.{rows_size}
use Rattle.pq_fusion.proofs.Stored.{levels-of_digits}

-- a level more
into_side : (rows side : List Row) (start end : ℕ) → 4 * weight side ≤ 3 * weight rows → 1 < weight rows → EditVisits 14 1 side start end → EditVisits 0 0 rows start end
into_side rows side start end light some visits zero k within small = absurd (omega (arith, within, some))
into_side rows side start end light some visits (suc levels) k within small =
    let below = visits levels k (within (weight side) light) (omega (arith, small, light)) in
    record { none_lost = below.none_lost; few = omega (arith, below.few) }

pub into_earlier : (earlier later : List Row) (start end : ℕ) → IsBalanced (length earlier) (length later) → EditVisits 14 1 earlier start end → EditVisits 0 0 (earlier ++ later) start end
into_earlier earlier later start end balanced visits = into_side (earlier ++ later) earlier start end
    (omega (arith, balanced.earlier_light, balanced.later_light, length-append earlier later)) (omega (arith, balanced.earlier_light, balanced.later_light, length-append earlier later)) visits

pub into_later : (earlier later : List Row) (start end : ℕ) → IsBalanced (length earlier) (length later) → EditVisits 14 1 later start end → EditVisits 0 0 (earlier ++ later) start end
into_later earlier later start end balanced visits = into_side (earlier ++ later) later start end
    (omega (arith, balanced.earlier_light, balanced.later_light, length-append earlier later)) (omega (arith, balanced.earlier_light, balanced.later_light, length-append earlier later)) visits

-- the boundary of a pair
pub boundary_visits : (earlier later : List Row) (first second : PieceParts) (start end : ℕ) → first ≡ tolerant earlier → second ≡ tolerant later → SearchesBoth 6 first.left second.removed start end
    → SearchesWithin 6 (length (earlier ++ later)) start end
boundary_visits earlier later first second start end first_is second_is visits k small =
    let sum = length-append earlier later in
    visits k (omega (arith, small, sum, ap size_of first_is, rows_size earlier)) (omega (arith, small, sum, ap size_of second_is, rows_size later))

-- a pair whose boundary is sought, with its side edited, and then its piece
module _ (rows : List Row) (start sought : ℕ) (boundary : SearchesWithin 6 (length rows) start sought) where
  module _ (below : List Row) (edited : ℕ) (below_is : below ≡ rows) (side : EditVisits 0 0 below sought edited) where
    own_side : EditVisits 0 0 rows sought edited
    own_side = subst (λ l. EditVisits 0 0 l sought edited) below_is side

    pub side_edited : EditVisits 14 0 rows start edited
    side_edited levels k within small =
        let before = boundary k (omega (arith, small)) in
        let between = own_side levels k within small in
        record { none_lost = omega (arith, before.none_lost, between.none_lost); few = omega (arith, before.few, between.few) }

    pub piece_edited : (piece : PieceParts) (end : ℕ) → piece ≡ tolerant rows → EditsWithin piece edited end → EditVisits 14 0 rows start end
    piece_edited piece end piece_is after levels k within small =
        let before = boundary k (omega (arith, small)) in
        let between = own_side levels k within small in
        let last = after k (omega (arith, small, ap size_of piece_is, rows_size rows)) (omega (arith, small, ap size_of piece_is, rows_size rows)) in
        record { none_lost = omega (arith, before.none_lost, between.none_lost, last.none_lost); few = omega (arith, before.few, between.few, last.few) }

-- a node that is opened
pub opened_pair : (rows : List Row) (start next end : ℕ) → next ≡ start + 1 → EditVisits 14 0 rows next end → EditVisits 14 1 rows start end
opened_pair rows start next end one visits levels k within small =
    let below = visits levels k within small in
    record { none_lost = omega (arith, one, below.none_lost); few = omega (arith, one, below.few) }

-- in digits
squared : (d : ℕ) → 1 ≤ d → 3 * d * (14 * d + 1) + (14 * d + 1) ≤ 60 * d * d
squared zero some = absurd (omega (arith, some))
squared (suc d) some = omega arith

pub edit_digits : (rows : List Row) (d start end : ℕ) → weight rows < 2 ^ d → IsWithinLevels (weight rows) (3 * d) → EditVisits 14 1 rows start end → VisitsUpTo (60 * d * d) start end
edit_digits rows zero start end small within visits = absurd (omega (arith, small))
edit_digits rows (suc d) start end small within visits =
    let all = visits (3 * suc d) (suc d) within small in
    record { none_lost = all.none_lost; few = omega (arith, all.few, squared (suc d) (omega arith)) }

levels_less : (levels whole less : ℕ) → less ≤ whole → IsWithinLevels whole levels → IsWithinLevels less levels
levels_less zero whole less few within = omega (arith, few, within)
levels_less (suc levels) whole less few within = λ side light. within side (omega (arith, few, light))

-- an edit of so many rows at most, in the tree and in the queue beside it
module _ (n : ℕ) where
  abbrev d : ℕ
  d = digits (n + 1)

  some : 1 ≤ d
  some = by d (below-digits (n + 1))
    where
      by : (e : ℕ) → n + 1 < 2 ^ e → 1 ≤ e
      by zero below = absurd (omega (arith, below))
      by (suc e) below = omega arith

  pub tree_visits : (rows : List Row) (start end : ℕ) → length rows ≤ n → EditVisits 14 1 rows start end → VisitsUpTo (60 * d * d) start end
  tree_visits rows start end few visits =
      edit_digits rows d start end (omega (arith, few, below-digits (n + 1))) (levels_less (3 * d) (n + 1) (weight rows) (omega (arith, few)) (levels-of_digits (n + 1))) visits

  pub row_visits : (rows : List Row) (start end : ℕ) → length rows ≤ n → StepsWithin rows start end → VisitsUpTo (8 * d) start end
  row_visits rows start end few visits =
      let all = visits (3 * d) (levels_less (3 * d) (n + 1) (weight rows) (omega (arith, few)) (levels-of_digits (n + 1))) in
      record { none_lost = all.none_lost; few = omega (arith, all.few, some) }

  pub queue_visits : (rows start end : ℕ) → rows ≤ n → VisitsWithin 144 rows start end → VisitsUpTo (144 * d) start end
  queue_visits rows start end few visits = record { none_lost = visits.none_lost; few = omega (arith, visits.few, digits-monotone (rows + 1) (n + 1) (omega (arith, few))) }

  pub queue_alone : (start end : ℕ) → VisitsUpTo (144 * d) start end → EditedWithin n start end
  queue_alone start end one = record { none_lost = one.none_lost; few = omega (arith, one.few) }

  pub queue_and_tree : (start between end : ℕ) → VisitsUpTo (144 * d) start between → VisitsUpTo (60 * d * d) between end → EditedWithin n start end
  queue_and_tree start between end one two = record { none_lost = omega (arith, one.none_lost, two.none_lost); few = omega (arith, one.few, two.few) }

  pub queue_twice : (start first second end : ℕ) → VisitsUpTo (144 * d) start first → VisitsUpTo (60 * d * d) first second → VisitsUpTo (144 * d) second end → EditedWithin n start end
  queue_twice start first second end one two three = record { none_lost = omega (arith, one.none_lost, two.none_lost, three.none_lost); few = omega (arith, one.few, two.few, three.few) }

  pub row_and_tree : (start first end : ℕ) → VisitsUpTo (8 * d) start first → VisitsUpTo (60 * d * d) first end → EditedWithin n start end
  row_and_tree start first end one two = record { none_lost = omega (arith, one.none_lost, two.none_lost); few = omega (arith, one.few, two.few) }

  pub tree_and_queue : (start first second end : ℕ) → VisitsUpTo (8 * d) start first → VisitsUpTo (60 * d * d) first second → VisitsUpTo (144 * d) second end → EditedWithin n start end
  tree_and_queue start first second end one two three = record { none_lost = omega (arith, one.none_lost, two.none_lost, three.none_lost); few = omega (arith, one.few, two.few, three.few) }
