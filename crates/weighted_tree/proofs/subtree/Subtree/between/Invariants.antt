use Rattle.std.proofs.Common.{◌≡◌, ℕ, ◌+◌, ◌≤◌, length}
use Rattle.std.specs.List.{slice_range}
use Rattle.weighted_tree.specs.Balance.{weight}
use Rattle.weighted_tree.specs.Levels.{FourALevel}
use Rattle.weighted_tree.proofs.subtree.Subtree.between.Given as goal

-- the range is one of the subtree
abbrev pub invariant-down : goal.invariant-down
invariant-down g l = record {
  range : slice_range l.subtree.items l.start l.end ≡ slice_range l.self.items l.fn.from l.fn.to;
  size : l.start + l.fn.to ≡ l.end + l.fn.from;
  within : l.end ≤ length l.subtree.items;
  none_lost : l.initial.steps ≤ l.steps;
  levels : (after : ℕ) → FourALevel (weight l.subtree) l.steps after → FourALevel (weight l.self) l.initial.steps after;
}

abbrev pub decreases-down : goal.decreases-down
decreases-down g l = length l.subtree.items
