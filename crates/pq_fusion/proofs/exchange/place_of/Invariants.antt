use Rattle.std.proofs.Common.{◌-◌}
use Rattle.pq_fusion.proofs.Searched.{IsNarrowed}
use Rattle.pq_fusion.proofs.exchange.place_of.Given as goal

abbrev pub invariant-halve : goal.invariant-halve
invariant-halve g l = IsNarrowed l.entry l.list l.low l.high l.initial.steps l.steps

abbrev pub decreases-halve : goal.decreases-halve
decreases-halve g l = l.high - l.low
