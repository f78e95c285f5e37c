use Rattle.std.proofs.Common.{◌≡◌, ℕ, ◌+◌, ◌-◌, ◌≤◌, drop, length}
use Rattle.weighted_tree.specs.Balance.{weight}
use Rattle.weighted_tree.specs.Levels.{OneALevel}
use Rattle.weighted_tree.specs.Measures.{measure_in}
use Rattle.weighted_tree.proofs.subtree.Subtree.suffix.Given as goal

-- the items that are left at the end of the subtree, joined with what was passed after it, are the whole
abbrev pub invariant-down : goal.invariant-down
invariant-down g l = record {
  value : g.T.Measure.Monoid.joined (measure_in g.T.Measured g.T.Measure.Monoid (drop (length l.subtree.items - l.rest) l.subtree.items)) l.after
      ≡ measure_in g.T.Measured g.T.Measure.Monoid (drop l.fn.from l.self.items);
  items : g.T.Measure.Monoid.items_of l.after + l.rest + l.fn.from ≡ length l.self.items;
  within : l.rest ≤ length l.subtree.items;
  none_lost : l.initial.steps ≤ l.steps;
  levels : (after : ℕ) → OneALevel (weight l.subtree) l.steps after → OneALevel (weight l.self) l.initial.steps after;
}

abbrev pub decreases-down : goal.decreases-down
decreases-down g l = length l.subtree.items
