use Rattle.weighted_tree.proofs.uncounted.first_place.Given as goal

abbrev pub ghosts-find_first : goal.ghosts-find_first
ghosts-find_first g a = record { name = a.blank.name; parts = a.blank.parts }
