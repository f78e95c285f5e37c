use Rattle.std.proofs.Common.{sym, ◌∙◌}
use Rattle.std.specs.Prelude.{◌==◌}
use Rattle.evidence_check.proofs.Reading.{fails_none, fails_some}
use Rattle.evidence_check.proofs.causes.has_wrong_number.Goals as goal

pub returns-then-added : goal.returns-then-added
returns-then-added g c = rw c.if-added.true (c.has_number.ensures ∙ c.requires.numbers c.args.number)

pub returns-in-None : goal.returns-in-None
returns-in-None g c = rw c.if-added.false (fails_none (λ row. row.number == c.args.number) c.args.place c.args.rows.now (sym c.row.ensures ∙ c.in-None.is))

pub returns-in-Some : goal.returns-in-Some
returns-in-Some g c = rw c.if-added.false (fails_some (λ row. row.number == c.args.number) c.args.place c.args.rows.now c.in-Some.row (sym c.row.ensures ∙ c.in-Some.is))
