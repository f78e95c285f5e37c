use Rattle.pq_fusion.proofs.Listed.{IsListed}
use Rattle.pq_fusion.proofs.answer.keys_of.Given as goal

abbrev pub invariant-loop-entry : goal.invariant-loop-entry
invariant-loop-entry l = IsListed l.held l.listing l.entry-index
