use Rattle.std.proofs.Common.{◌≡◌, ℕ, ◌+◌, ◌≤◌, take, length}
use Rattle.weighted_tree.specs.Balance.{weight}
use Rattle.weighted_tree.specs.Levels.{OneALevel}
use Rattle.weighted_tree.specs.Measures.{measure_in}
use Rattle.weighted_tree.proofs.subtree.Subtree.prefix.Given as goal

-- what was passed before the subtree, joined with the items that are left in it, is the whole
abbrev pub invariant-down : goal.invariant-down
invariant-down g l = record {
  value : g.T.Measure.Monoid.joined l.before (measure_in g.T.Measured g.T.Measure.Monoid (take l.rest l.subtree.items)) ≡ measure_in g.T.Measured g.T.Measure.Monoid (take l.fn.to l.self.items);
  items : g.T.Measure.Monoid.items_of l.before + l.rest ≡ l.fn.to;
  within : l.rest ≤ length l.subtree.items;
  none_lost : l.initial.steps ≤ l.steps;
  levels : (after : ℕ) → OneALevel (weight l.subtree) l.steps after → OneALevel (weight l.self) l.initial.steps after;
}

abbrev pub decreases-down : goal.decreases-down
decreases-down g l = length l.subtree.items
