use Rattle.checkpoint_full.proofs.full.FullRetro.insert.Given as goal

abbrev pub ghosts-insert_everywhere : goal.ghosts-insert_everywhere
ghosts-insert_everywhere g a = record { name = a.blank.name; parts = a.blank.parts }

abbrev pub ghosts-insert_in_spares : goal.ghosts-insert_in_spares
ghosts-insert_in_spares g a = record { name = a.blank.name; parts = a.blank.parts }
