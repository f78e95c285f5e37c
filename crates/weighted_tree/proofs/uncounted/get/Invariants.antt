use Rattle.weighted_tree.proofs.uncounted.get.Given as goal

abbrev pub ghosts-item_at : goal.ghosts-item_at
ghosts-item_at g a = record { name = a.blank.name; parts = a.blank.parts }
