use Rattle.checkpoint_full.proofs.snapshot.Snapshot.copy_at.Given as goal

abbrev pub ghosts-shorten : goal.ghosts-shorten
ghosts-shorten g a = record { name = a.blank.name; parts = a.blank.parts }
