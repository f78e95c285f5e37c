use Rattle.retro_base.proofs.uncounted.list_after.Given as goal

abbrev pub ghosts-list_later : goal.ghosts-list_later
ghosts-list_later g a = record { name = a.blank.name; parts = a.blank.parts }
