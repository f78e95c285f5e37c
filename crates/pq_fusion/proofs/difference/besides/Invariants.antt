use Rattle.std.proofs.Common.{◌≡◌, drop}
use Rattle.pq_fusion.specs.Differences.{besides}
use Rattle.pq_fusion.proofs.difference.besides.Given as goal

abbrev pub invariant-loop-place : goal.invariant-loop-place
invariant-loop-place l = besides l.fewer l.more ≡ besides (drop l.place l.fewer) (drop l.place l.more)
