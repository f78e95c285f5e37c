use Rattle.checkpoint_full.proofs.full.FullRetro.remove.Given as goal

abbrev pub ghosts-remove_everywhere : goal.ghosts-remove_everywhere
ghosts-remove_everywhere g a = record { name = a.blank.name; parts = a.blank.parts }

abbrev pub ghosts-remove_in_spares : goal.ghosts-remove_in_spares
ghosts-remove_in_spares g a = record { name = a.blank.name; parts = a.blank.parts }
