use Rattle.std.proofs.Common.{◌+◌, [], ◌∷◌, slice_range, sym, ◌∙◌, arith}
use Rattle.timeline_undo.proofs.Walked.{walked-stops, walked-then, up_to_more, walked_up_to}
use Rattle.timeline_undo.proofs.scan.walk_and_add.Goals as goal

pub walk-requires-clause-room : goal.walk-requires-clause-room
walk-requires-clause-room c = up_to_more c.args.count c.args.from (c.args.from + 1) (omega arith) c.requires.room

pub along-requires-clause-room : goal.along-requires-clause-room
along-requires-clause-room c =
    walked_up_to c.args.timeline.now c.args.from c.args.to c.args.count c.in-Ok.next c.args.from 262144 c.requires.room (sym c.walk.ensures ∙ c.in-Ok.is) (omega arith)

pub returns-in-Ok : goal.returns-in-Ok
returns-in-Ok c =
    c.along.ensures
    ∙ sym (walked-then (slice_range c.args.timeline.now c.args.from c.args.to) (c.args.new ∷ []) c.args.count c.in-Ok.next (sym c.walk.ensures ∙ c.in-Ok.is))

pub returns-in-Err : goal.returns-in-Err
returns-in-Err c =
    sym (walked-stops (slice_range c.args.timeline.now c.args.from c.args.to) (c.args.new ∷ []) c.args.count c.in-Err.failing (sym c.walk.ensures ∙ c.in-Err.is))
