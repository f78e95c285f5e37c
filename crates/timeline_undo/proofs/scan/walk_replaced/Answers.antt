use Rattle.std.proofs.Common.{◌+◌, ap, sym, ◌∙◌, arith}
use Rattle.timeline_undo.specs.WalkCounts.{walked}
use Rattle.timeline_undo.proofs.Walked.{added_up_to, all_parts, new_first, new_later, second_stops, walked-stops, walked_up_to}
use Rattle.timeline_undo.proofs.scan.walk_replaced.Goals as goal

-- the new row stands before the old one
pub returns-in-Err : goal.returns-in-Err
returns-in-Err c =
    sym (ap (λ rows. walked rows c.args.count) (new_first c.args.timeline.now c.args.replacement (omega arith) (omega arith))
    ∙ walked-stops _ _ c.args.count c.in-Err.failing (sym c.walk_and_add.ensures ∙ c.in-Err.is))

pub walk-requires-clause-room : goal.walk-requires-clause-room
walk-requires-clause-room c =
    added_up_to c.args.timeline.now 0 c.args.replacement.before c.args.replacement.new c.args.count c.in-Ok.next 0 _ c.requires.room
    (sym c.walk_and_add.ensures ∙ c.in-Ok.is) (omega arith)

pub returns-in-Err-walk : goal.returns-in-Err-walk
returns-in-Err-walk c =
    sym (ap (λ rows. walked rows c.args.count) (new_first c.args.timeline.now c.args.replacement (omega arith) (omega arith))
    ∙ second_stops _ _ _ c.args.count c.in-Ok.next c.in-Err-walk.failing (sym c.walk_and_add.ensures ∙ c.in-Ok.is) (sym c.walk.ensures ∙ c.in-Err-walk.is))

pub walk-requires-then-before-index-clause-room : goal.walk-requires-then-before-index-clause-room
walk-requires-then-before-index-clause-room c =
    walked_up_to c.args.timeline.now c.args.replacement.before c.args.replacement.index c.in-Ok.next c.in-Ok-walk.next (c.args.replacement.before + 1) _
    (added_up_to c.args.timeline.now 0 c.args.replacement.before c.args.replacement.new c.args.count c.in-Ok.next 0 _ c.requires.room
    (sym c.walk_and_add.ensures ∙ c.in-Ok.is) (omega arith))
    (sym c.walk.ensures ∙ c.in-Ok-walk.is) (omega arith)

pub returns-in-Ok-walk : goal.returns-in-Ok-walk
returns-in-Ok-walk c =
    rw c.len.ensures.length at c.walk-then-before-index.ensures
    ∙ sym (ap (λ rows. walked rows c.args.count) (new_first c.args.timeline.now c.args.replacement (omega arith) (omega arith))
    ∙ all_parts _ _ _ c.args.count c.in-Ok.next c.in-Ok-walk.next (sym c.walk_and_add.ensures ∙ c.in-Ok.is) (sym c.walk.ensures ∙ c.in-Ok-walk.is))

-- it stands after the old one
pub returns-in-Err-walk-2 : goal.returns-in-Err-walk-2
returns-in-Err-walk-2 c =
    sym (ap (λ rows. walked rows c.args.count) (new_later c.args.timeline.now c.args.replacement (omega arith) (omega arith))
    ∙ walked-stops _ _ c.args.count c.in-Err-walk-2.failing (sym c.walk-else-before-index.ensures ∙ c.in-Err-walk-2.is))

pub walk_and_add-requires-else-before-index-clause-room : goal.walk_and_add-requires-else-before-index-clause-room
walk_and_add-requires-else-before-index-clause-room c =
    walked_up_to c.args.timeline.now 0 c.args.replacement.index c.args.count c.in-Ok-walk-2.next 0 _ c.requires.room
    (sym c.walk-else-before-index.ensures ∙ c.in-Ok-walk-2.is) (omega arith)

pub returns-in-Err-walk_and_add : goal.returns-in-Err-walk_and_add
returns-in-Err-walk_and_add c =
    sym (ap (λ rows. walked rows c.args.count) (new_later c.args.timeline.now c.args.replacement (omega arith) (omega arith))
    ∙ second_stops _ _ _ c.args.count c.in-Ok-walk-2.next c.in-Err-walk_and_add.failing (sym c.walk-else-before-index.ensures ∙ c.in-Ok-walk-2.is)
    (sym c.walk_and_add-else-before-index.ensures ∙ c.in-Err-walk_and_add.is))

pub walk-requires-else-before-index-2-clause-room : goal.walk-requires-else-before-index-2-clause-room
walk-requires-else-before-index-2-clause-room c =
    added_up_to c.args.timeline.now (c.args.replacement.index + 1) c.args.replacement.before c.args.replacement.new c.in-Ok-walk-2.next c.in-Ok-walk_and_add.next
    c.args.replacement.index _
    (walked_up_to c.args.timeline.now 0 c.args.replacement.index c.args.count c.in-Ok-walk-2.next 0 c.args.replacement.index c.requires.room
    (sym c.walk-else-before-index.ensures ∙ c.in-Ok-walk-2.is) (omega arith))
    (sym c.walk_and_add-else-before-index.ensures ∙ c.in-Ok-walk_and_add.is) (omega arith)

pub returns-in-Ok-walk_and_add : goal.returns-in-Ok-walk_and_add
returns-in-Ok-walk_and_add c =
    rw c.len-else-before-index.ensures.length at c.walk-else-before-index-2.ensures
    ∙ sym (ap (λ rows. walked rows c.args.count) (new_later c.args.timeline.now c.args.replacement (omega arith) (omega arith))
    ∙ all_parts _ _ _ c.args.count c.in-Ok-walk-2.next c.in-Ok-walk_and_add.next (sym c.walk-else-before-index.ensures ∙ c.in-Ok-walk-2.is)
    (sym c.walk_and_add-else-before-index.ensures ∙ c.in-Ok-walk_and_add.is))
