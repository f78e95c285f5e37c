use Rattle.std.proofs.Common.{◌≤◌, ◌∙◌, length, ap, arith}
use Rattle.std.proofs.lemmas.List.Edits.{length-remove}
use Rattle.retro_base.specs.Edits.{cut}
use Rattle.costs.specs.VisitsLaws.{visits-add, visits-longer}
use Rattle.bridge_pq.specs.declared.marked_row.MarkedRow.{MarkedRow}
use Rattle.bridge_pq.specs.MarkedRows.{rows_of}
use Rattle.bridge_pq.proofs.Places.{map-remove}
use Rattle.bridge_pq.proofs.Costs.{visits-more}
use Rattle.bridge_pq.proofs.Edited.{cut-within, cut-taking, few-rows, lacks-flip, possible-cut}
use Rattle.bridge_pq.proofs.edit.remove_taking.Goals as goal

pub flip_marks-requires : goal.flip_marks-requires
flip_marks-requires g c = record {
  lacks = lacks-flip (rows_of c.args.rows.now) (cut c.args.place c.args.row) c.gained_without-flip.result c.remove.new.self c.args.entries.now c.gained_without-flip.ensures.flips
      (cut-taking c.args.rows.now c.args.entries.now c.requires.bridged c.args.place c.args.row c.requires.there c.requires.replays c.requires.takes c.remove.new.self c.remove.ensures.items);
}

pub returns-clause-rows : goal.returns-clause-rows
returns-clause-rows g c = c.flip_marks.ensures.rows ∙ ap rows_of c.remove.ensures.items ∙ map-remove (λ (item : MarkedRow). item.row) c.args.rows.now c.args.place

pub returns-clause-visits : goal.returns-clause-visits
returns-clause-visits g c =
    let shorter : length c.remove.new.self ≤ length c.args.rows.now =
    omega (
      arith,
      ap length c.remove.ensures.items,
      length-remove c.args.rows.now c.args.place
          (cut-within c.args.rows.now c.args.entries.now c.requires.bridged c.args.place c.args.row c.requires.there c.requires.replays),
    ) in
    visits-more 108 24 (length c.args.rows.now) _ _
    (visits-add 60 48 (length c.args.rows.now) _ _ _
    (visits-add 48 12 (length c.args.rows.now) _ _ _ c.gained_without-flip.ensures.visits c.remove.ensures.visits)
    (visits-longer 48 (length c.remove.new.self) _ _ _ shorter c.flip_marks.ensures.visits))

pub gained_without-flip-requires-clause-possible : goal.gained_without-flip-requires-clause-possible
gained_without-flip-requires-clause-possible g c = possible-cut c.args.rows.now c.args.entries.now c.args.place c.args.row c.requires.bridged c.requires.there

pub gained_without-flip-requires-clause-few : goal.gained_without-flip-requires-clause-few
gained_without-flip-requires-clause-few g c = few-rows c.args.rows.now c.args.entries.now c.requires.bridged

pub remove-requires : goal.remove-requires
remove-requires g c = record { within = cut-within c.args.rows.now c.args.entries.now c.requires.bridged c.args.place c.args.row c.requires.there c.requires.replays }

pub returns-clause-bridged : goal.returns-clause-bridged
returns-clause-bridged g c = c.flip_marks.ensures.bridged

pub returns-clause-change : goal.returns-clause-change
returns-clause-change g c = c.gained_without-flip.ensures.flips.changes
