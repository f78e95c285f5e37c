use Rattle.prefix_trees.proofs.line.RetroLinePartial.copy.Given as goal

abbrev pub ghosts-copied : goal.ghosts-copied
ghosts-copied g a = record { name = a.blank.name; parts = a.blank.parts }
