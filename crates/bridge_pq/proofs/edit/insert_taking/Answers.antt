use Rattle.std.proofs.Common.{◌≡◌, ◌+◌, length, ap, ◌∙◌, sym, subst, arith, false}
use Rattle.std.proofs.lemmas.List.Edits.{length-insert}
use Rattle.retro_base.specs.Edits.{add}
use Rattle.costs.specs.Visits.{VisitsWithin}
use Rattle.costs.specs.VisitsLaws.{visits-add, visits-longer}
use Rattle.bridge_pq.specs.declared.marked_row.MarkedRow.{MarkedRow}
use Rattle.bridge_pq.specs.MarkedRows.{rows_of}
use Rattle.bridge_pq.proofs.Places.{map-insert}
use Rattle.bridge_pq.proofs.Costs.{visits-more}
use Rattle.bridge_pq.proofs.EntryEdits.{one_longer}
use Rattle.bridge_pq.proofs.Edited.{possible-add, put-taking, lacks-flip}
use Rattle.bridge_pq.proofs.edit.insert_taking.Goals as goal

pub lost_with-flip-requires-clause-possible : goal.lost_with-flip-requires-clause-possible
lost_with-flip-requires-clause-possible g c = possible-add c.args.rows.now c.args.entries.now c.requires.bridged c.args.place c.args.row c.requires.within c.requires.replayable

pub returns-in_err-insert-clause-visits : goal.returns-in_err-insert-clause-visits
returns-in_err-insert-clause-visits g c =
    let same : c.args.rows.now ≡ c.insert.new.self = sym c.in_err-insert.ensures.err in
    visits-more 60 84 (length c.insert.new.self) _ _
    (visits-add 48 12 (length c.insert.new.self) _ _ _
    (subst (λ rows. VisitsWithin 48 (length rows) c.args.steps.now c.lost_with-flip.new.steps) same c.lost_with-flip.ensures.visits)
    c.insert.ensures.visits)

pub flip_marks-requires : goal.flip_marks-requires
flip_marks-requires g c = record {
  lacks = lacks-flip (rows_of c.args.rows.now) (add c.args.place c.args.row) c.lost_with-flip.result c.insert.new.self c.args.entries.now c.lost_with-flip.ensures.flips
      (put-taking c.args.rows.now c.args.entries.now c.requires.bridged c.args.place c.args.row c.requires.within c.requires.replayable c.requires.takes c.insert.new.self
      (rw c.new.ensures at c.in_ok-insert.ensures.ok));
}

pub returns-clause-rows : goal.returns-clause-rows
returns-clause-rows g c = c.flip_marks.ensures.rows ∙ ap rows_of (rw c.new.ensures at c.in_ok-insert.ensures.ok) ∙ map-insert (λ (item : MarkedRow). item.row) c.args.rows.now c.args.place (record { row = c.args.row; survives = false })

pub returns-clause-visits : goal.returns-clause-visits
returns-clause-visits g c =
    let put = c.insert.new.self in
    let flip : length c.flip_marks.new.rows ≡ length c.args.rows.now + 1 = one_longer c.args.rows.now c.flip_marks.new.rows c.args.place c.args.row c.requires.within (returns-clause-rows g c) in
    let longer : length put ≡ length c.args.rows.now + 1 = ap length (rw c.new.ensures at c.in_ok-insert.ensures.ok) ∙ length-insert c.args.rows.now c.args.place (record { row = c.args.row; survives = false }) c.requires.within in
    visits-more 108 36 (length c.flip_marks.new.rows) _ _
    (visits-add 60 48 (length c.flip_marks.new.rows) _ _ _
    (visits-add 48 12 (length c.flip_marks.new.rows) _ _ _
    (visits-longer 48 (length c.args.rows.now) _ _ _ (omega (arith, flip)) c.lost_with-flip.ensures.visits)
    (visits-longer 12 (length put) _ _ _ (omega (arith, flip, longer)) c.insert.ensures.visits))
    (visits-longer 48 (length put) _ _ _ (omega (arith, flip, longer)) c.flip_marks.ensures.visits))
