use Rattle.std.proofs.Common.{length, ◌-◌, ◌+◌}
use Rattle.pq_fusion.proofs.Merged.{IsMerged}
use Rattle.pq_fusion.proofs.merge.merge.Given as goal

abbrev pub invariant-merge : goal.invariant-merge
invariant-merge l = IsMerged l.first l.second l.both.items l.i l.j

abbrev pub decreases-merge : goal.decreases-merge
decreases-merge l = (length l.first - l.i) + (length l.second - l.j)
