use Rattle.pq_fusion.proofs.fused_queue.FusedQueueRetro.insert.Given as goal

abbrev pub ghosts-insert_uncounted-L-Ledger : goal.ghosts-insert_uncounted-L-Ledger
ghosts-insert_uncounted-L-Ledger a = record { name = a.visits.name; parts = a.visits.parts }

abbrev pub ghosts-insert_uncounted-M-Ledger : goal.ghosts-insert_uncounted-M-Ledger
ghosts-insert_uncounted-M-Ledger a = record { name = a.anew.name; parts = a.anew.parts }
