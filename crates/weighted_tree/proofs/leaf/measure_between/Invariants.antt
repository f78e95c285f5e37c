use Rattle.std.proofs.Common.{◌≡◌, ◌+◌, ◌-◌, ◌≤◌}
use Rattle.std.specs.List.{slice_range}
use Rattle.weighted_tree.specs.Measures.{measure_in}
use Rattle.weighted_tree.proofs.leaf.measure_between.Given as goal

abbrev pub invariant-on : goal.invariant-on
invariant-on g l = record {
  value : l.joined ≡ measure_in g.T.Measured g.T.Measure.Monoid (slice_range l.items l.fn.from l.end);
  items : g.T.Measure.Monoid.items_of l.joined + l.fn.from ≡ l.end;
  above : l.fn.from ≤ l.end;
  within : l.end ≤ l.fn.to;
}

abbrev pub decreases-on : goal.decreases-on
decreases-on g l = l.fn.to - l.end
