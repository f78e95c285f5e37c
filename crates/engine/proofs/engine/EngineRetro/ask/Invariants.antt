use Rattle.engine.proofs.engine.EngineRetro.ask.Given as goal

abbrev pub ghosts-ask_uncounted : goal.ghosts-ask_uncounted
ghosts-ask_uncounted a = record { name = a.blank.name; parts = a.blank.parts }
