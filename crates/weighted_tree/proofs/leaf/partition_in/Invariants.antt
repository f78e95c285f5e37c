use Rattle.std.proofs.Common.{◌-◌, ◌≤◌, Bool, length}
use Rattle.std.specs.List.Sorted.{IsPartitionedBy}
use Rattle.weighted_tree.specs.Search.{TellsItems}
use Rattle.weighted_tree.proofs.Leaves.{IsTurnBetween}
use Rattle.weighted_tree.proofs.leaf.partition_in.Given as goal

abbrev pub invariant-halve : goal.invariant-halve
invariant-halve g l = record {
  turn : (holds : g.row.T.Denot → Bool) → TellsItems g.F.Fn l.test holds → IsPartitionedBy holds l.items → IsTurnBetween holds l.items l.low l.high;
  order : l.low ≤ l.high;
  within : l.high ≤ length l.items;
}

abbrev pub decreases-halve : goal.decreases-halve
decreases-halve g l = l.high - l.low
