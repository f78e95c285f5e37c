use Rattle.bridge_pq.proofs.Present.{empty-bridged}
use Rattle.bridge_pq.proofs.bridge_queue.BridgeQueue.new.Goals as goal

pub invariant_of-result : goal.invariant_of-result
invariant_of-result c = rw (c.new.ensures, c.new-2.ensures) empty-bridged
