use Rattle.std.proofs.Common.{◌-◌, length}
use Rattle.pq_fusion.proofs.Chunked.{IsHalved}
use Rattle.pq_fusion.proofs.Turns.{IsTurning}
use Rattle.pq_fusion.proofs.chunk_edits.home.Given as goal

abbrev pub invariant-halve : goal.invariant-halve
invariant-halve g l = record {
  halved : IsHalved l.entry l.chunks l.low l.high;
  turning : IsTurning (length l.chunks) (l.high - l.low) l.initial.steps l.steps;
}

abbrev pub decreases-halve : goal.decreases-halve
decreases-halve g l = l.high - l.low
