use Rattle.pq_fusion.proofs.Fused.{fused_rise, unit_before, unit_after}
use Rattle.pq_fusion.proofs.FromRows.{associative}
use Rattle.pq_fusion.proofs.laws.fuse_is_associative.Goals as goal

pub returns-clause-associative : goal.returns-clause-associative
returns-clause-associative c = λ a b d first second third. associative a b d second third (fused_rise a b first second) first

pub returns-clause-unit : goal.returns-clause-unit
returns-clause-unit c = λ piece rising. (unit_before piece rising, unit_after piece rising)
