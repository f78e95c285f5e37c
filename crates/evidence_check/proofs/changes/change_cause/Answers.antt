use Rattle.std.proofs.Common.{ap, ◌∙◌}
use Rattle.evidence_check.specs.Marks.{cause_against, rows_of}
use Rattle.evidence_check.specs.Truth.{reported_edit}
use Rattle.evidence_check.proofs.ChangesRead.{Laws, cause_read}
use Rattle.evidence_check.proofs.changes.change_cause.Goals as goal

pub returns : goal.returns
returns g c =
    let e = c.args.evidence.now in
    let laws : Laws = record { marks = c.marks_tell_the_change.ensures; bridge = c.one_change_is_named.ensures.bridge; of_pq = c.one_change_is_named.ensures.of_pq } in
    c.cause_against.ensures ∙ ap (cause_against e.change) c.marked_change.ensures ∙ cause_read laws (rows_of c.args.rows.now) (reported_edit e) c.requires.possible e.change
