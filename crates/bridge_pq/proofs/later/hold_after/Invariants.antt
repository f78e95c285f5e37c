use Rattle.std.proofs.Common.{◌≡◌, ◌+◌, ◌*◌, ◌≤◌, drop, length}
use Rattle.costs.specs.Visits.{VisitsWithin}
use Rattle.bridge_pq.specs.Gathered.{after_moves}
use Rattle.bridge_pq.specs.MarkedEntries.{present_in}
use Rattle.bridge_pq.proofs.later.hold_after.Given as goal

abbrev pub invariant-loop-index : goal.invariant-loop-index
invariant-loop-index g l = record {
  entries : after_moves (drop l.index l.moves) l.held.entries ≡ after_moves l.moves (present_in l.entries);
  fresh : l.held.fresh ≤ l.index;
  of : l.held.of ≡ length l.entries;
  visits : VisitsWithin (56 * (l.index + 1)) (length l.entries) l.fn.steps l.steps;
}
