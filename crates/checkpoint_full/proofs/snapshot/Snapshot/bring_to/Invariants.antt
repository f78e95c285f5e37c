use Rattle.checkpoint_full.proofs.snapshot.Snapshot.bring_to.Given as goal

abbrev pub ghosts-move_uncounted : goal.ghosts-move_uncounted
ghosts-move_uncounted g a = record { name = a.blank.name; parts = a.blank.parts }
