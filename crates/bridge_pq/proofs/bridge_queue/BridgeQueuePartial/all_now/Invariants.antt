use Rattle.bridge_pq.proofs.bridge_queue.BridgeQueuePartial.all_now.Given as goal

abbrev pub ghosts-listed : goal.ghosts-listed
ghosts-listed a = record { name = a.blank.name; parts = a.blank.parts }
