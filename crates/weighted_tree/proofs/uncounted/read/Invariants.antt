use Rattle.weighted_tree.proofs.uncounted.read.Given as goal

abbrev pub ghosts-write_items : goal.ghosts-write_items
ghosts-write_items g a = record { name = a.blank.name; parts = a.blank.parts }
