use Rattle.std.proofs.Common.{sym, ◌∙◌}
use Rattle.retro_base.specs.EditedLists.{remove-insert}
use Rattle.retro_base.specs.InsertedLaws.{fresh_for}
use Rattle.timeline_undo.proofs.Edits.{did_fit}
use Rattle.timeline_undo.proofs.edit.put_in_both.Goals as goal

pub insert-requires-clause-fresh : goal.insert-requires-clause-fresh
insert-requires-clause-fresh g c = fresh_for _ _ c.args.place c.args.row c.requires.replayable

pub insert-requires-clause-fits : goal.insert-requires-clause-fits
insert-requires-clause-fits g c = did_fit _ c.args.place c.args.row c.requires.in_order

pub returns-in-Err-clause-same : goal.returns-in-Err-clause-same
returns-in-Err-clause-same g c =
    c.in-Err.ensures.err ∙ c.requires.same
    ∙ sym (c.remove.ensures.rows ∙ rw c.in_ok-insert.ensures.ok (remove-insert c.args.timeline.now c.args.place c.args.row c.requires.within))

pub returns-in-Err-clause-err : goal.returns-in-Err-clause-err
returns-in-Err-clause-err g c =
    c.remove.ensures.rows ∙ rw c.in_ok-insert.ensures.ok (remove-insert c.args.timeline.now c.args.place c.args.row c.requires.within)
