use Rattle.std.proofs.Common.{◌-◌, ◌<◌, ◌≤◌, length, get_or}
use Rattle.pq_fusion.proofs.Turns.{IsTurning}
use Rattle.pq_fusion.proofs.chunks.holding.Given as goal

abbrev pub invariant-halve : goal.invariant-halve
invariant-halve g l = record {
  some : 0 < l.low;
  order : l.low ≤ l.high;
  within : l.high ≤ length l.starts;
  from : get_or l.starts (l.low - 1) 0 ≤ l.rank;
  to : l.high < length l.starts → l.rank < get_or l.starts l.high 0;
  turning : IsTurning (length l.starts) (l.high - l.low) l.initial.steps l.steps;
}

abbrev pub decreases-halve : goal.decreases-halve
decreases-halve g l = l.high - l.low
