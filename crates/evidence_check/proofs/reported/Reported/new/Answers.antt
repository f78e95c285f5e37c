use Rattle.evidence_check.proofs.Made.{nothing_beside}
use Rattle.evidence_check.proofs.reported.Reported.new.Goals as goal

pub invariant_of-result : goal.invariant_of-result
invariant_of-result c = rw c.new.ensures (nothing_beside c.new-2.result c.new-2.ensures.empty)
