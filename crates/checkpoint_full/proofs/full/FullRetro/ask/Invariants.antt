use Rattle.checkpoint_full.proofs.full.FullRetro.ask.Given as goal

abbrev pub ghosts-ask_uncounted : goal.ghosts-ask_uncounted
ghosts-ask_uncounted g a = record { name = a.blank.name; parts = a.blank.parts }
