use Rattle.std.proofs.Common.{◌≡◌, ◌+◌, length, ap, ◌∙◌, sym, subst, arith, false}
use Rattle.std.proofs.lemmas.List.Edits.{length-insert}
use Rattle.std.specs.List.{insert}
use Rattle.retro_base.specs.Edits.{add}
use Rattle.costs.specs.Visits.{VisitsWithin}
use Rattle.costs.specs.VisitsLaws.{visits-add, visits-longer}
use Rattle.bridge_pq.specs.declared.marked_row.MarkedRow.{MarkedRow}
use Rattle.bridge_pq.specs.Bridged.{AddsAt}
use Rattle.bridge_pq.specs.MarkedRows.{rows_of}
use Rattle.bridge_pq.proofs.Places.{map-insert}
use Rattle.bridge_pq.proofs.Costs.{visits-more}
use Rattle.bridge_pq.proofs.EntryEdits.{one_longer}
use Rattle.bridge_pq.proofs.Edited.{possible-add, new-absent, few-entries, put-adding, put-gained, lacks-flip}
use Rattle.bridge_pq.proofs.edit.insert_adding.Goals as goal

pub gained_with-flip-requires-clause-possible : goal.gained_with-flip-requires-clause-possible
gained_with-flip-requires-clause-possible g c = possible-add c.args.rows.now c.args.entries.now c.requires.bridged c.args.place c.args.row c.requires.within c.requires.replayable

pub put_row_with_entry-requires-clause-few : goal.put_row_with_entry-requires-clause-few
put_row_with_entry-requires-clause-few g c = few-entries c.args.rows.now c.args.entries.now c.requires.bridged

pub put_row_with_entry-requires-clause-absent : goal.put_row_with_entry-requires-clause-absent
put_row_with_entry-requires-clause-absent g c = new-absent c.args.rows.now c.args.entries.now c.requires.bridged c.args.place c.args.row c.requires.within
    c.requires.replayable c.args.new c.requires.adds

pub put_row_with_entry-requires-2-clause-few : goal.put_row_with_entry-requires-2-clause-few
put_row_with_entry-requires-2-clause-few g c = few-entries c.args.rows.now c.args.entries.now c.requires.bridged

pub put_row_with_entry-requires-2-clause-absent : goal.put_row_with_entry-requires-2-clause-absent
put_row_with_entry-requires-2-clause-absent g c = new-absent c.args.rows.now c.args.entries.now c.requires.bridged c.args.place c.args.row c.requires.within
    c.requires.replayable c.args.new c.requires.adds

pub returns-in_err-put_row_with_entry-clause-visits : goal.returns-in_err-put_row_with_entry-clause-visits
returns-in_err-put_row_with_entry-clause-visits g c =
    let same : c.args.rows.now ≡ c.put_row_with_entry.new.rows = sym c.in_err-put_row_with_entry.ensures.err.0 in
    visits-more 120 24 (length c.put_row_with_entry.new.rows) _ _
    (visits-add 48 72 (length c.put_row_with_entry.new.rows) _ _ _
    (subst (λ rows. VisitsWithin 48 (length rows) c.args.steps.now c.gained_with-flip.new.steps) same c.gained_with-flip.ensures.visits)
    c.put_row_with_entry.ensures.visits)

pub returns-in_err-put_row_with_entry-2-clause-visits : goal.returns-in_err-put_row_with_entry-2-clause-visits
returns-in_err-put_row_with_entry-2-clause-visits g c =
    let same : c.args.rows.now ≡ c.put_row_with_entry-2.new.rows = sym c.in_err-put_row_with_entry-2.ensures.err.0 in
    visits-more 120 24 (length c.put_row_with_entry-2.new.rows) _ _
    (visits-add 48 72 (length c.put_row_with_entry-2.new.rows) _ _ _
    (subst (λ rows. VisitsWithin 48 (length rows) c.args.steps.now c.gained_with-flip.new.steps) same c.gained_with-flip.ensures.visits)
    c.put_row_with_entry-2.ensures.visits)

pub returns-then-flip-place-clause-bridged : goal.returns-then-flip-place-clause-bridged
returns-then-flip-place-clause-bridged g c = (put-gained c.args.rows.now c.args.entries.now c.requires.bridged c.args.place c.args.row c.requires.within
    c.requires.replayable c.args.new c.gained_with-flip.result.entry c.gained_with-flip.result.survives
    c.requires.adds
    (subst (λ p. AddsAt (insert (rows_of c.args.rows.now) c.args.place c.args.row) p c.gained_with-flip.result.entry) (omega (arith, c.if-flip-place.true)) c.gained_with-flip.ensures.flips.there)
    c.gained_with-flip.ensures.flips.marks c.put_row_with_entry.new.rows c.put_row_with_entry.new.entries c.in_ok-put_row_with_entry.ensures.rows c.in_ok-put_row_with_entry.ensures.entries).0

pub returns-then-flip-place-clause-rows : goal.returns-then-flip-place-clause-rows
returns-then-flip-place-clause-rows g c =
    ap rows_of c.in_ok-put_row_with_entry.ensures.rows ∙ map-insert (λ (item : MarkedRow). item.row) c.args.rows.now c.args.place (record { row = c.args.row; survives = c.gained_with-flip.result.survives })

pub returns-then-flip-place-clause-visits : goal.returns-then-flip-place-clause-visits
returns-then-flip-place-clause-visits g c =
    let put = c.put_row_with_entry.new.rows in
    let longer : length put ≡ length c.args.rows.now + 1 = ap length c.in_ok-put_row_with_entry.ensures.rows
    ∙ length-insert c.args.rows.now c.args.place (record { row = c.args.row; survives = c.gained_with-flip.result.survives }) c.requires.within in
    visits-more 84 60 (length put) _ _
    (visits-add 48 36 (length put) _ _ _
    (visits-longer 48 (length c.args.rows.now) _ _ _ (omega (arith, longer)) c.gained_with-flip.ensures.visits)
    c.in_ok-put_row_with_entry.ensures.ok_visits)

pub flip_marks-requires : goal.flip_marks-requires
flip_marks-requires g c = record {
  lacks = lacks-flip (rows_of c.args.rows.now) (add c.args.place c.args.row) c.gained_with-flip.result c.put_row_with_entry-2.new.rows c.put_row_with_entry-2.new.entries c.gained_with-flip.ensures.flips
      (put-adding c.args.rows.now c.args.entries.now c.requires.bridged c.args.place c.args.row c.requires.within c.requires.replayable c.args.new c.requires.adds c.put_row_with_entry-2.new.rows c.put_row_with_entry-2.new.entries
      c.in_ok-put_row_with_entry-2.ensures.rows c.in_ok-put_row_with_entry-2.ensures.entries);
}

pub returns-clause-rows : goal.returns-clause-rows
returns-clause-rows g c = c.flip_marks.ensures.rows ∙ ap rows_of c.in_ok-put_row_with_entry-2.ensures.rows ∙ map-insert (λ (item : MarkedRow). item.row) c.args.rows.now c.args.place (record { row = c.args.row; survives = false })

pub returns-clause-visits : goal.returns-clause-visits
returns-clause-visits g c =
    let put = c.put_row_with_entry-2.new.rows in
    let flip : length c.flip_marks.new.rows ≡ length c.args.rows.now + 1 = one_longer c.args.rows.now c.flip_marks.new.rows c.args.place c.args.row c.requires.within (returns-clause-rows g c) in
    let longer : length put ≡ length c.args.rows.now + 1 = ap length c.in_ok-put_row_with_entry-2.ensures.rows
    ∙ length-insert c.args.rows.now c.args.place (record { row = c.args.row; survives = false }) c.requires.within in
    visits-more 132 12 (length c.flip_marks.new.rows) _ _
    (visits-add 84 48 (length c.flip_marks.new.rows) _ _ _
    (visits-add 48 36 (length c.flip_marks.new.rows) _ _ _
    (visits-longer 48 (length c.args.rows.now) _ _ _ (omega (arith, flip)) c.gained_with-flip.ensures.visits)
    (visits-longer 36 (length put) _ _ _ (omega (arith, flip, longer)) c.in_ok-put_row_with_entry-2.ensures.ok_visits))
    (visits-longer 48 (length put) _ _ _ (omega (arith, flip, longer)) c.flip_marks.ensures.visits))
