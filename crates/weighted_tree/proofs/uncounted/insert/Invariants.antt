use Rattle.weighted_tree.proofs.uncounted.insert.Given as goal

abbrev pub ghosts-insert_with_counter : goal.ghosts-insert_with_counter
ghosts-insert_with_counter g a = record { name = a.blank.name; parts = a.blank.parts }
