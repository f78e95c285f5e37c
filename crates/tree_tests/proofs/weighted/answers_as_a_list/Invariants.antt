use Rattle.tree_tests.proofs.weighted.answers_as_a_list.Given as goal

abbrev pub ghosts-answers : goal.ghosts-answers
ghosts-answers g a = record { name = a.blank.name; parts = a.blank.parts }
