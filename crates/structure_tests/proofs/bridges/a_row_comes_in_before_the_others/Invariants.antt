use Rattle.structure_tests.proofs.bridges.a_row_comes_in_before_the_others.Given as goal

abbrev pub ghosts-worked : goal.ghosts-worked
ghosts-worked g a = record { name = a.blank.name; parts = a.blank.parts }
