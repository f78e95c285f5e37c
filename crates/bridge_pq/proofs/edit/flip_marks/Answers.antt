use Rattle.std.proofs.Common.{length}
use Rattle.costs.specs.VisitsLaws.{visits-add, visits-longer}
use Rattle.bridge_pq.proofs.Edited.{lacks-among, lacks-done, lacks-few, lacks-within}
use Rattle.bridge_pq.proofs.edit.flip_marks.Goals as goal

pub mark_row-requires : goal.mark_row-requires
mark_row-requires g c = lacks-within c.args.rows.now c.args.entries.now c.args.flip c.requires.lacks

pub mark_entry-requires-clause-rise : goal.mark_entry-requires-clause-rise
mark_entry-requires-clause-rise g c = c.requires.lacks.unflipped.holds.rise

pub mark_entry-requires-clause-among : goal.mark_entry-requires-clause-among
mark_entry-requires-clause-among g c = lacks-among c.args.rows.now c.args.entries.now c.args.flip c.requires.lacks

pub returns-clause-bridged : goal.returns-clause-bridged
returns-clause-bridged g c =
    (lacks-done c.args.rows.now c.args.entries.now c.args.flip c.requires.lacks c.mark_row.new.rows c.mark_entry.new.entries c.mark_row.ensures.marked c.mark_entry.ensures.marked).0

pub returns-clause-rows : goal.returns-clause-rows
returns-clause-rows g c =
    (lacks-done c.args.rows.now c.args.entries.now c.args.flip c.requires.lacks c.mark_row.new.rows c.mark_entry.new.entries c.mark_row.ensures.marked c.mark_entry.ensures.marked).1

pub returns-clause-visits : goal.returns-clause-visits
returns-clause-visits g c =
    visits-add 24 24 (length c.args.rows.now) _ _ _ c.mark_row.ensures.visits
    (visits-longer 24 (length c.args.entries.now) _ _ _ (lacks-few c.args.rows.now c.args.entries.now c.args.flip c.requires.lacks) c.mark_entry.ensures.visits)
