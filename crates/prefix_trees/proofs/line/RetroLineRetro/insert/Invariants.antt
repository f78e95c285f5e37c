use Rattle.prefix_trees.proofs.line.RetroLineRetro.insert.Given as goal

abbrev pub ghosts-insert_uncounted : goal.ghosts-insert_uncounted
ghosts-insert_uncounted g a = record { name = a.blank.name; parts = a.blank.parts }
