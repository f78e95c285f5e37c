use Rattle.weighted_tree.proofs.uncounted.measure.Given as goal

abbrev pub ghosts-between : goal.ghosts-between
ghosts-between g a = record { name = a.blank.name; parts = a.blank.parts }
