use Rattle.std.proofs.Common.{◌≤◌, ◌∙◌, length, ap, arith}
use Rattle.std.proofs.lemmas.List.Edits.{length-remove}
use Rattle.retro_base.specs.Edits.{cut}
use Rattle.costs.specs.VisitsLaws.{visits-add, visits-longer}
use Rattle.bridge_pq.specs.declared.marked_row.MarkedRow.{MarkedRow}
use Rattle.bridge_pq.specs.MarkedRows.{rows_of}
use Rattle.bridge_pq.proofs.Places.{map-remove}
use Rattle.bridge_pq.proofs.Edited.{cut-within, few-entries, few-rows, own-among, cut-adding, lacks-flip, possible-cut}
use Rattle.bridge_pq.proofs.edit.remove_dead.Goals as goal

pub take_entry-requires-clause-among : goal.take_entry-requires-clause-among
take_entry-requires-clause-among g c = own-among c.args.rows.now c.args.entries.now c.requires.bridged c.args.place c.args.row c.requires.there c.requires.replays c.args.own c.requires.adds

pub flip_marks-requires : goal.flip_marks-requires
flip_marks-requires g c = record {
  lacks = lacks-flip (rows_of c.args.rows.now) (cut c.args.place c.args.row) c.lost_without-flip.result c.remove.new.self c.take_entry.new.entries c.lost_without-flip.ensures.flips
      (cut-adding c.args.rows.now c.args.entries.now c.requires.bridged c.args.place c.args.row c.requires.there c.requires.replays c.args.own c.requires.adds c.remove.new.self c.take_entry.new.entries
      c.remove.ensures.items c.take_entry.ensures.taken);
}

pub returns-clause-rows : goal.returns-clause-rows
returns-clause-rows g c = c.flip_marks.ensures.rows ∙ ap rows_of c.remove.ensures.items ∙ map-remove (λ (item : MarkedRow). item.row) c.args.rows.now c.args.place

pub returns-clause-visits : goal.returns-clause-visits
returns-clause-visits g c =
    let shorter : length c.remove.new.self ≤ length c.args.rows.now =
    omega (
      arith,
      ap length c.remove.ensures.items,
      length-remove c.args.rows.now c.args.place
          (cut-within c.args.rows.now c.args.entries.now c.requires.bridged c.args.place c.args.row c.requires.there c.requires.replays),
    ) in
    visits-add 84 48 (length c.args.rows.now) _ _ _
    (visits-add 60 24 (length c.args.rows.now) _ _ _
    (visits-add 48 12 (length c.args.rows.now) _ _ _ c.lost_without-flip.ensures.visits c.remove.ensures.visits)
    (visits-longer 24 (length c.args.entries.now) _ _ _ (few-entries c.args.rows.now c.args.entries.now c.requires.bridged) c.take_entry.ensures.visits))
    (visits-longer 48 (length c.remove.new.self) _ _ _ shorter c.flip_marks.ensures.visits)

pub lost_without-flip-requires-clause-possible : goal.lost_without-flip-requires-clause-possible
lost_without-flip-requires-clause-possible g c = possible-cut c.args.rows.now c.args.entries.now c.args.place c.args.row c.requires.bridged c.requires.there

pub lost_without-flip-requires-clause-few : goal.lost_without-flip-requires-clause-few
lost_without-flip-requires-clause-few g c = few-rows c.args.rows.now c.args.entries.now c.requires.bridged

pub remove-requires : goal.remove-requires
remove-requires g c = record { within = cut-within c.args.rows.now c.args.entries.now c.requires.bridged c.args.place c.args.row c.requires.there c.requires.replays }

pub returns-clause-bridged : goal.returns-clause-bridged
returns-clause-bridged g c = c.flip_marks.ensures.bridged

pub returns-clause-change : goal.returns-clause-change
returns-clause-change g c = c.lost_without-flip.ensures.flips.changes
