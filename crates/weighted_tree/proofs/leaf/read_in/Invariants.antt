use Rattle.std.proofs.Common.{◌≡◌, ◌+◌, ◌-◌, ◌≤◌, take, drop, length}
use Rattle.weighted_tree.specs.Reads.{Writes}
use Rattle.weighted_tree.proofs.leaf.read_in.Given as goal

abbrev pub invariant-on : goal.invariant-on
invariant-on g l = record {
  written : Writes g.F.Fn l.shown (take l.done (drop l.fn.from l.leaf)) l.fn.filled l.initial.items l.items;
  size : length l.items ≡ length l.initial.items;
  within : l.done ≤ l.fn.count;
  visits : l.steps ≡ l.initial.steps + (l.done - 1);
}

abbrev pub decreases-on : goal.decreases-on
decreases-on g l = l.fn.count - l.done
