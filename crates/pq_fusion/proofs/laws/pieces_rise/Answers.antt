use Rattle.pq_fusion.proofs.Fused.{fused_rise}
use Rattle.pq_fusion.proofs.FromRows.{tolerant_rise}
use Rattle.pq_fusion.proofs.laws.pieces_rise.Goals as goal

pub returns-clause-rows : goal.returns-clause-rows
returns-clause-rows c = tolerant_rise

pub returns-clause-fused : goal.returns-clause-fused
returns-clause-fused c = fused_rise
