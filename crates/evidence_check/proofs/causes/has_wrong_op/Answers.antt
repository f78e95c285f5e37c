use Rattle.std.proofs.Common.{sym, ap, ◌∙◌, not}
use Rattle.evidence_check.specs.Truth.{same_op}
use Rattle.evidence_check.proofs.Reading.{fails_none, fails_some}
use Rattle.evidence_check.proofs.causes.has_wrong_op.Goals as goal

pub returns-in-None : goal.returns-in-None
returns-in-None g c = rw c.if-added.false (fails_none (λ row. same_op row.op c.args.op) c.args.place c.args.rows.now (sym c.row.ensures ∙ c.in-None.is))

pub returns-in-Some : goal.returns-in-Some
returns-in-Some g c =
    rw c.if-added.false (ap not c.is_same_op.ensures ∙ fails_some (λ row. same_op row.op c.args.op) c.args.place c.args.rows.now c.in-Some.row (sym c.row.ensures ∙ c.in-Some.is))
