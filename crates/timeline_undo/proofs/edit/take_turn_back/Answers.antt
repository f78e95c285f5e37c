use Rattle.std.proofs.lemmas.Option.{slice_get_within}
use Rattle.timeline_undo.proofs.Edits.{told_as_cut}
use Rattle.timeline_undo.proofs.edit.take_turn_back.Goals as goal

pub take_from_both-requires-clause-within : goal.take_from_both-requires-clause-within
take_from_both-requires-clause-within g c = slice_get_within _ c.args.turn.place c.args.turn.row (rw c.if-turn.true at c.requires.within)

pub take_from_both-requires-clause-replayable : goal.take_from_both-requires-clause-replayable
take_from_both-requires-clause-replayable g c = rw c.if-turn.true at c.requires.replayable

pub returns-then-turn-clause-rows : goal.returns-then-turn-clause-rows
returns-then-turn-clause-rows g c = rw c.if-turn.true c.take_from_both.ensures.rows

pub returns-then-turn-clause-reported : goal.returns-then-turn-clause-reported
returns-then-turn-clause-reported g c =
    rw c.if-turn.true (told_as_cut _ c.args.turn.place c.args.turn.row _ (rw c.if-turn.true at c.requires.within)
    c.take_from_both.ensures.row c.take_from_both.ensures.reported)

pub put_in_both-requires-clause-within : goal.put_in_both-requires-clause-within
put_in_both-requires-clause-within g c = rw c.if-turn.false at c.requires.within

pub put_in_both-requires-clause-in_order : goal.put_in_both-requires-clause-in_order
put_in_both-requires-clause-in_order g c = rw c.if-turn.false at c.requires.in_order

pub put_in_both-requires-clause-replayable : goal.put_in_both-requires-clause-replayable
put_in_both-requires-clause-replayable g c = rw c.if-turn.false at c.requires.replayable

pub returns-else-turn-clause-rows : goal.returns-else-turn-clause-rows
returns-else-turn-clause-rows g c = rw c.if-turn.false c.put_in_both.ensures.rows

pub returns-else-turn-clause-reported : goal.returns-else-turn-clause-reported
returns-else-turn-clause-reported g c = rw c.if-turn.false c.put_in_both.ensures.reported
