use Rattle.std.proofs.Common.{sym, ◌∙◌}
use Rattle.evidence_check.proofs.TellingRows.{reported_by}
use Rattle.evidence_check.proofs.reported.Reported.take.Goals as goal

pub make-requires-clause-truth : goal.make-requires-clause-truth
make-requires-clause-truth c = sym c.cause_of.ensures ∙ c.in-None.is

pub invariant_of-self : goal.invariant_of-self
invariant_of-self c = c.make.ensures.kept

pub returns-in-None-clause-rows : goal.returns-in-None-clause-rows
returns-in-None-clause-rows c =
    reported_by c.make.result c.self.inside.name c.self.inside.rows c.make.new.rows c.args.self.now c.args.evidence.now c.self.view_is c.make.ensures.ok
