use Rattle.bridge_pq.proofs.bridge_queue.BridgeQueuePartial.copy.Given as goal

abbrev pub ghosts-copied : goal.ghosts-copied
ghosts-copied a = record { name = a.blank.name; parts = a.blank.parts }
