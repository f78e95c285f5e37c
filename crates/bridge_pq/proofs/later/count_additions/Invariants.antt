use Rattle.std.proofs.Common.{◌≡◌, ◌+◌, ◌≤◌, drop}
use Rattle.bridge_pq.specs.Gathered.{additions}
use Rattle.bridge_pq.proofs.later.count_additions.Given as goal

abbrev pub invariant-loop-index : goal.invariant-loop-index
invariant-loop-index l = record {
  same : l.count + additions (drop l.index l.moves) ≡ additions l.moves;
  few : l.count ≤ l.index;
}
