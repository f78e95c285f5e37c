use Rattle.weighted_tree.proofs.uncounted.remove.Given as goal

abbrev pub ghosts-remove_with_counter : goal.ghosts-remove_with_counter
ghosts-remove_with_counter g a = record { name = a.blank.name; parts = a.blank.parts }
