use Rattle.evidence_check.specs.Marks.{weighed_row, unweighed, rows_of}
use Rattle.evidence_check.proofs.Made.{numbers_with}
use Rattle.evidence_check.proofs.Marking.{insert-map}
use Rattle.evidence_check.proofs.edits.insert_row_and_number.Goals as goal

pub returns-clause-numbers : goal.returns-clause-numbers
returns-clause-numbers g c =
    let e = c.args.evidence.now in
    rw (c.in_default.ensures.ok, insert-map unweighed e.place c.args.rows.now (weighed_row e))
    (numbers_with (rows_of c.args.rows.now) c.args.numbers.now c.insert.new.self c.requires.numbers e.place (unweighed (weighed_row e)) c.in_ok-insert.ensures.updates.0)
