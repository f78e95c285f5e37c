use Rattle.evidence_check.specs.Marks.{rows_of}
use Rattle.evidence_check.specs.Truth.{reported_edit}
use Rattle.evidence_check.proofs.Accepted.{accepted_from}
use Rattle.evidence_check.proofs.ChangesRead.{Laws, read_is}
use Rattle.evidence_check.proofs.Possible.{possible}
use Rattle.evidence_check.proofs.changes.read_change.Goals as goal

pub returns : goal.returns
returns g c =
    let e = c.args.evidence.now in
    let laws : Laws = record { marks = c.marks_tell_the_change.ensures; bridge = c.one_change_is_named.ensures.bridge; of_pq = c.one_change_is_named.ensures.of_pq } in
    let accepted = accepted_from (rows_of c.args.rows.now) e c.requires.truth in
    read_is laws (rows_of c.args.rows.now) (reported_edit e) (possible c.args.rows.now c.requires.kept e.added e.place e.number e.op c.requires.evidence.op accepted.inside accepted.number accepted.op)
    e.change accepted.replays accepted.change
