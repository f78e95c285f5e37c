use Rattle.std.proofs.Common.{◌≡◌, ℕ, ◌+◌, ◌≤◌, length}
use Rattle.weighted_tree.specs.Balance.{weight}
use Rattle.weighted_tree.specs.Levels.{OneALevel}
use Rattle.weighted_tree.specs.Measures.{passing}
use Rattle.weighted_tree.specs.SearchSteps.{IsBoundaryWithin}
use Rattle.weighted_tree.specs.Sides.{seen_from}
use Rattle.weighted_tree.proofs.subtree.Subtree.boundary_within.Given as goal

-- a turn of the subtree is one of the whole
abbrev pub invariant-down : goal.invariant-down
invariant-down g l = record {
  boundary : (place found : ℕ) → found ≡ l.count + place → IsBoundaryWithin g.F.Fn l.test
      (passing l.side g.T.Measured g.T.Measure.Monoid l.passed (seen_from l.side l.subtree.items)) (length l.subtree.items) place
      → IsBoundaryWithin g.F.Fn l.test (passing l.side g.T.Measured g.T.Measure.Monoid l.fn.before (seen_from l.side l.self.items)) (length l.self.items) found;
  items : g.T.Measure.Monoid.items_of l.passed + length l.subtree.items ≤ g.T.Measure.Monoid.items_of l.fn.before + length l.self.items;
  within : l.count + length l.subtree.items ≤ length l.self.items;
  none_lost : l.initial.steps ≤ l.steps;
  levels : (after : ℕ) → OneALevel (weight l.subtree) l.steps after → OneALevel (weight l.self) l.initial.steps after;
}

abbrev pub decreases-down : goal.decreases-down
decreases-down g l = length l.subtree.items
