use Rattle.pq_fusion.proofs.fused_queue.FusedQueueRetro.remove.Given as goal

abbrev pub ghosts-remove_uncounted-L-Ledger : goal.ghosts-remove_uncounted-L-Ledger
ghosts-remove_uncounted-L-Ledger a = record { name = a.visits.name; parts = a.visits.parts }

abbrev pub ghosts-remove_uncounted-M-Ledger : goal.ghosts-remove_uncounted-M-Ledger
ghosts-remove_uncounted-M-Ledger a = record { name = a.anew.name; parts = a.anew.parts }
