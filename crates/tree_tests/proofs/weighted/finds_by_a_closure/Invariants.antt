use Rattle.tree_tests.proofs.weighted.finds_by_a_closure.Given as goal

abbrev pub ghosts-reaching : goal.ghosts-reaching
ghosts-reaching g a = record { name = a.blank.name; parts = a.blank.parts }
