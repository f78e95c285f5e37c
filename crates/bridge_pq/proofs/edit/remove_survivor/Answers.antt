use Rattle.std.proofs.Common.{length}
use Rattle.costs.specs.VisitsLaws.{visits-add, visits-longer}
use Rattle.bridge_pq.proofs.Costs.{visits-more}
use Rattle.bridge_pq.proofs.Edited.{few-entries, own-among, survivor-changes, cut-survivor}
use Rattle.bridge_pq.proofs.edit.remove_survivor.Goals as goal

pub take_entry-requires-clause-among : goal.take_entry-requires-clause-among
take_entry-requires-clause-among g c = own-among c.args.rows.now c.args.entries.now c.requires.bridged c.args.place c.args.row c.requires.there c.requires.replays c.args.own c.requires.adds

pub returns-clause-bridged : goal.returns-clause-bridged
returns-clause-bridged g c = (cut-survivor c.args.rows.now c.args.entries.now c.requires.bridged c.args.place c.args.row c.requires.there c.requires.replays
    c.args.own c.requires.adds c.requires.lives c.remove.new.self c.take_entry.new.entries c.remove.ensures.items c.take_entry.ensures.taken).0

pub returns-clause-rows : goal.returns-clause-rows
returns-clause-rows g c = (cut-survivor c.args.rows.now c.args.entries.now c.requires.bridged c.args.place c.args.row c.requires.there c.requires.replays
    c.args.own c.requires.adds c.requires.lives c.remove.new.self c.take_entry.new.entries c.remove.ensures.items c.take_entry.ensures.taken).1

pub returns-clause-change : goal.returns-clause-change
returns-clause-change g c = survivor-changes c.args.rows.now c.args.entries.now c.requires.bridged c.args.place c.args.row c.requires.there c.requires.replays c.args.own c.requires.adds c.requires.lives

pub returns-clause-visits : goal.returns-clause-visits
returns-clause-visits g c =
    visits-more 36 96 (length c.args.rows.now) _ _
    (visits-add 12 24 (length c.args.rows.now) _ _ _ c.remove.ensures.visits
    (visits-longer 24 (length c.args.entries.now) _ _ _ (few-entries c.args.rows.now c.args.entries.now c.requires.bridged) c.take_entry.ensures.visits))
