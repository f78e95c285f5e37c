use Rattle.prefix_trees.proofs.line.RetroLineRetro.remove.Given as goal

abbrev pub ghosts-remove_uncounted : goal.ghosts-remove_uncounted
ghosts-remove_uncounted g a = record { name = a.blank.name; parts = a.blank.parts }
