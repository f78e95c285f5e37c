use Rattle.std.proofs.Common.{◌-◌, ◌≤◌, drop, length}
use Rattle.weighted_tree.specs.Sides.{seen_from, join_from}
use Rattle.weighted_tree.proofs.Leaves.{HasPassed}
use Rattle.weighted_tree.proofs.leaf.boundary_in.Given as goal

abbrev pub invariant-on : goal.invariant-on
invariant-on g l = record {
  passed : HasPassed g.T.Measure.Monoid.items_of g.T.Measure.Monoid.unit_value
      (join_from l.side g.T.Measure.Monoid.joined) g.T.Measured.measured g.F.Fn l.test l.fn.before (drop l.fn.from (seen_from l.side l.items))
      (length l.items - l.fn.from) l.count l.passed;
  within : l.count ≤ l.rest;
}

abbrev pub decreases-on : goal.decreases-on
decreases-on g l = l.rest - l.count
