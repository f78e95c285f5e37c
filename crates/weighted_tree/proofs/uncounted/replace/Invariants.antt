use Rattle.weighted_tree.proofs.uncounted.replace.Given as goal

abbrev pub ghosts-exchange : goal.ghosts-exchange
ghosts-exchange g a = record { name = a.blank.name; parts = a.blank.parts }
