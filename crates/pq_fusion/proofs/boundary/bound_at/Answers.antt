use Rattle.std.proofs.Common.{sym, ◌∙◌}
use Rattle.pq_fusion.proofs.Ranked.{at_some, at_none}
use Rattle.pq_fusion.proofs.boundary.bound_at.Goals as goal

pub returns-in-Some-clause-entry : goal.returns-in-Some-clause-entry
returns-in-Some-clause-entry g c = at_some c.args.entries.now c.args.rank c.in-Some.entry (sym c.entry.ensures.entry ∙ c.in-Some.is)

pub returns-in-None-clause-entry : goal.returns-in-None-clause-entry
returns-in-None-clause-entry g c = at_none c.args.entries.now c.args.rank (sym c.entry.ensures.entry ∙ c.in-None.is)
