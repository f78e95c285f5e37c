-- The run that ended so is the one over the outbox that was made, with these words.
use Rattle.std.proofs.Common.{inr}
use Rattle.retro.proofs.status_of.Goals as goal

pub returns-in-Ok-run_gathered-clause-runs : goal.returns-in-Ok-run_gathered-clause-runs
returns-in-Ok-run_gathered-clause-runs c = inr (inr (rw (← c.in-Ok.ensures.words) (_, _, _, _, c.in-Ok-run_gathered.ensures.runs)))
