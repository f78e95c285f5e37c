use Rattle.std.proofs.Common.{sym, ◌∙◌}
use Rattle.evidence_check.proofs.Possible.{possible}
use Rattle.evidence_check.proofs.causes.cause_of.Goals as goal

pub change_cause-requires-clause-possible : goal.change_cause-requires-clause-possible
change_cause-requires-clause-possible g c =
    let e = c.args.evidence.now in
    possible c.args.rows.now c.requires.kept.marks e.added e.place e.number e.op c.requires.evidence.op
    (sym c.is_outside.ensures ∙ c.if-is_outside.false) (sym c.has_wrong_number.ensures ∙ c.if-has_wrong_number.false) (sym c.has_wrong_op.ensures ∙ c.if-has_wrong_op.false)
