use Rattle.tree_tests.proofs.prefixes.prefixes_are_searched.Given as goal

abbrev pub ghosts-sign_answers : goal.ghosts-sign_answers
ghosts-sign_answers g a = record { name = a.blank.name; parts = a.blank.parts }
