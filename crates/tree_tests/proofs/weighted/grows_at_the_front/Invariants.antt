use Rattle.tree_tests.proofs.weighted.grows_at_the_front.Given as goal

abbrev pub ghosts-thousand : goal.ghosts-thousand
ghosts-thousand g a = record { name = a.blank.name; parts = a.blank.parts }
