use Rattle.std.proofs.Common.{◌+◌, ◌-◌}
use Rattle.pq_fusion.proofs.Sought.{IsSplitting}
use Rattle.pq_fusion.proofs.boundary.split_at_rank.Given as goal

abbrev pub invariant-halve : goal.invariant-halve
invariant-halve g l = IsSplitting l.first.chunks.now l.second.chunks.now l.rank l.own l.other l.initial.steps l.steps

abbrev pub decreases-halve : goal.decreases-halve
decreases-halve g l = (l.own.last - l.own.first) + (l.own.high - l.own.low) + ((l.other.last - l.other.first) + (l.other.high - l.other.low))
