use Rattle.evidence_check.specs.Marks.{unweighed, rows_of}
use Rattle.evidence_check.proofs.Made.{numbers_cut}
use Rattle.evidence_check.proofs.Marking.{remove-map}
use Rattle.evidence_check.proofs.edits.remove_row_and_number.Goals as goal

pub returns-clause-numbers : goal.returns-clause-numbers
returns-clause-numbers g c =
    let e = c.args.evidence.now in
    rw (c.remove_row.ensures, remove-map unweighed e.place c.args.rows.now)
    (numbers_cut (rows_of c.args.rows.now) c.args.numbers.now c.remove.new.self c.requires.numbers e.place e.number c.requires.distinct c.requires.own c.remove.ensures.updates.0)
