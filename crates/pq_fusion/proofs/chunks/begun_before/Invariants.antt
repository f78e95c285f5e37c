use Rattle.std.proofs.Common.{◌-◌}
use Rattle.pq_fusion.proofs.Begun.{IsSoughtAmong}
use Rattle.pq_fusion.proofs.chunks.begun_before.Given as goal

abbrev pub invariant-halve : goal.invariant-halve
invariant-halve g l = IsSoughtAmong l.bound l.chunks l.low l.high l.initial.steps l.steps

abbrev pub decreases-halve : goal.decreases-halve
decreases-halve g l = l.high - l.low
