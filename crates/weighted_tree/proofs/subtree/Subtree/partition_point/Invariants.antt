use Rattle.std.proofs.Common.{ℕ, ◌+◌, ◌-◌, ◌<◌, ◌≤◌, Bool, length}
use Rattle.std.specs.List.Sorted.{IsPartitionedBy}
use Rattle.weighted_tree.specs.Balance.{weight}
use Rattle.weighted_tree.specs.Levels.{OneALevel}
use Rattle.weighted_tree.specs.Search.{TellsItems}
use Rattle.weighted_tree.proofs.Partitions.{HasBoundary}
use Rattle.weighted_tree.proofs.subtree.Subtree.partition_point.Given as goal

-- the turn of the subtree is that of the whole
abbrev pub invariant-down : goal.invariant-down
invariant-down g l = record {
  boundary : (holds : g.row.T.Denot → Bool) → TellsItems g.F.Fn l.test holds → IsPartitionedBy holds l.self.items → HasBoundary holds l.self.items (l.end - length l.subtree.items) l.subtree.items;
  some_left : length l.subtree.items ≤ l.end;
  within : l.end ≤ length l.self.items;
  none_lost : l.initial.steps ≤ l.steps;
  some : length l.subtree.items < length l.self.items → l.initial.steps + 1 ≤ l.steps;
  levels : (after : ℕ) → OneALevel (weight l.subtree) l.steps after → OneALevel (weight l.self) l.initial.steps after;
}

abbrev pub decreases-down : goal.decreases-down
decreases-down g l = length l.subtree.items
