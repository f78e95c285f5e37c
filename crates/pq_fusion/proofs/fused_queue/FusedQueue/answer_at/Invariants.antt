use Rattle.pq_fusion.proofs.fused_queue.FusedQueue.answer_at.Given as goal

abbrev pub ghosts-answer_with : goal.ghosts-answer_with
ghosts-answer_with a = record { name = a.blank.name; parts = a.blank.parts }
