use Rattle.std.proofs.Common.{◌≡◌, ◌+◌, ◌-◌, ◌≤◌}
use Rattle.weighted_tree.proofs.subtree.Subtree.copy_leaf.Given as goal

abbrev pub invariant-on : goal.invariant-on
invariant-on g l = record {
  visits : l.steps + 1 ≡ l.initial.steps + l.counted;
  within : l.counted ≤ l.count;
}

abbrev pub decreases-on : goal.decreases-on
decreases-on g l = l.count - l.counted
