use Rattle.bridge_pq.proofs.Edited.{bridged-after}
use Rattle.bridge_pq.proofs.bridge_queue.BridgeQueuePartial.insert.Goals.{in-Some, in-None}
use Rattle.bridge_pq.proofs.bridge_queue.BridgeQueuePartial.insert.Goals as goal

pub invariant_of-self : goal.invariant_of-self
invariant_of-self g c = elim c.match-added_entry.branch [
  | in-Some w ↦ rw w.self-inside-is (bridged-after w.insert_adding.result _ _ _ _ c.self.invariant w.insert_adding.ensures.bridged w.insert_adding.ensures.err)
  | in-None w ↦ rw w.self-inside-is (bridged-after w.insert_taking.result _ _ _ _ c.self.invariant w.insert_taking.ensures.bridged w.insert_taking.ensures.err)
]
