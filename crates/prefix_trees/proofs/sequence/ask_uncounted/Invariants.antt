use Rattle.prefix_trees.proofs.sequence.ask_uncounted.Given as goal

abbrev pub ghosts-answer_at : goal.ghosts-answer_at
ghosts-answer_at g a = record { name = a.blank.name; parts = a.blank.parts }
