use Rattle.retro_base.specs.State.{step}
use Rattle.retro_base.specs.Content.{state_of}
use Rattle.retro_base.specs.Replay.{run}
use Rattle.retro_base.specs.lemmas.Folds.{ComesTo}
use Rattle.retro_base.proofs.content.Content.perform_all.Given as goal

abbrev pub invariant-loop-row : goal.invariant-loop-row
invariant-loop-row l = ComesTo step l.rows (run l.rows (state_of l.initial.self)) l.row-index (state_of l.self)
