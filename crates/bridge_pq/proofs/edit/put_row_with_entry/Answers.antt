use Rattle.std.proofs.Common.{◌≡◌, ◌≤◌, ◌+◌, length, ap, ◌∙◌, sym, subst, arith}
use Rattle.std.specs.List.{remove}
use Rattle.std.proofs.lemmas.List.Edits.{length-insert}
use Rattle.costs.specs.Visits.{VisitsWithin}
use Rattle.costs.specs.VisitsLaws.{visits-add, visits-longer, visits-one_longer}
use Rattle.retro_base.specs.EditedLists.{remove-insert}
use Rattle.bridge_pq.specs.declared.marked_row.MarkedRow.{MarkedRow}
use Rattle.bridge_pq.proofs.Costs.{visits-more}
use Rattle.bridge_pq.proofs.HeldEntries.{put-length}
use Rattle.bridge_pq.proofs.edit.put_row_with_entry.Goals as goal

pub returns-in_err-insert-clause-visits : goal.returns-in_err-insert-clause-visits
returns-in_err-insert-clause-visits g c = visits-more 12 60 (length c.insert.new.self) _ _ c.insert.ensures.visits

pub returns-in-Err-clause-err : goal.returns-in-Err-clause-err
returns-in-Err-clause-err g c = (
  c.remove.ensures.items
      ∙ ap (λ rows. remove rows c.args.place) (rw c.new.ensures at c.in_ok-insert.ensures.ok)
      ∙ remove-insert c.args.rows.now c.args.place (record { row = c.args.row; survives = c.args.survives }) c.requires.within,
  c.in-Err.ensures.err,
)

pub returns-in-Err-clause-visits : goal.returns-in-Err-clause-visits
returns-in-Err-clause-visits g c =
    let rows = c.args.rows.now in
    let item : MarkedRow = record { row = c.args.row; survives = c.args.survives } in
    let longer : length c.insert.new.self ≡ length rows + 1 = ap length (rw c.new.ensures at c.in_ok-insert.ensures.ok) ∙ length-insert rows c.args.place item c.requires.within in
    let back : c.remove.new.self ≡ rows = c.remove.ensures.items ∙ ap (λ xs. remove xs c.args.place) (rw c.new.ensures at c.in_ok-insert.ensures.ok) ∙ remove-insert rows c.args.place item c.requires.within in
    let kept : length c.put_entry.new.entries ≤ length rows = omega (arith, ap length c.in-Err.ensures.err, c.requires.few) in
    subst (λ xs. VisitsWithin 72 (length xs) c.args.steps.now c.remove.new.steps) (sym back)
    (visits-add 48 24 (length rows) _ _ _
    (visits-add 24 24 (length rows) _ _ _
    (visits-one_longer 12 (length rows) _ _ (subst (λ n. VisitsWithin 12 n c.args.steps.now c.insert.new.steps) longer c.insert.ensures.visits))
    (visits-longer 24 (length c.put_entry.new.entries) (length rows) _ _ kept c.put_entry.ensures.visits))
    (visits-one_longer 12 (length rows) _ _ (subst (λ n. VisitsWithin 12 n c.put_entry.new.steps c.remove.new.steps) longer c.remove.ensures.visits)))

pub returns-clause-ok_visits : goal.returns-clause-ok_visits
returns-clause-ok_visits g c =
    let rows = c.args.rows.now in
    let item : MarkedRow = record { row = c.args.row; survives = c.args.survives } in
    let longer : length c.insert.new.self ≡ length rows + 1 = ap length (rw c.new.ensures at c.in_ok-insert.ensures.ok) ∙ length-insert rows c.args.place item c.requires.within in
    let few : length c.put_entry.new.entries ≤ length c.insert.new.self =
    omega (arith, longer, ap length c.in_default.ensures.ok, put-length (record { entry = c.args.entry; present = c.args.survives }) c.args.entries.now, c.requires.few) in
    visits-add 12 24 (length c.insert.new.self) _ _ _ c.insert.ensures.visits
    (visits-longer 24 (length c.put_entry.new.entries) _ _ _ few c.put_entry.ensures.visits)

pub returns-clause-visits : goal.returns-clause-visits
returns-clause-visits g c = visits-more 36 36 (length c.insert.new.self) _ _ (returns-clause-ok_visits g c)
