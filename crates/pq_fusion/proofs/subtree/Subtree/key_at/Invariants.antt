use Rattle.std.proofs.Common.{◌≡◌, ℕ, ◌+◌, ◌-◌, ◌*◌, ◌^◌, ◌<◌, ◌≤◌, Some, take, length, slice_get}
use Rattle.retro_base.specs.declared.row.Entry.{Entry}
use Rattle.costs.specs.Digits.{digits}
use Rattle.pq_fusion.specs.EntryCounts.{left_by}
use Rattle.pq_fusion.specs.Searches.{rows_down, walk_of}
use Rattle.pq_fusion.proofs.Added.{IsRanked, key_before}
use Rattle.pq_fusion.proofs.Searched.{IsSought}
use Rattle.pq_fusion.proofs.subtree.Subtree.key_at.Given as goal

abbrev pub invariant-halve : goal.invariant-halve
invariant-halve g l =
    ((x : Entry) → slice_get (left_by (take l.to l.self.rows)) l.index ≡ Some x → IsRanked l.added x l.low l.high)
    × (l.found ≡ key_before l.added l.low)
    × (0 < l.low → l.index < length (left_by (take l.to l.self.rows)))
    × (l.high ≤ length l.added)
    × ((levels most turns : ℕ) → length l.self.rows ≤ most → rows_down levels most ≤ 1 → most + 1 < 2 ^ turns
    → IsSought (l.high - l.low) (12 * digits (length l.self.rows + 1) + walk_of levels most) turns l.initial.steps l.steps)

abbrev pub decreases-halve : goal.decreases-halve
decreases-halve g l = l.high - l.low
