use Rattle.std.proofs.Common.{◌≡◌, suc, ◌+◌, arith}
use Rattle.timeline_undo.proofs.Edits.{left_before, left_after}
use Rattle.timeline_undo.proofs.failing.row_after_remove.Goals as goal

pub returns-then-index-place : goal.returns-then-index-place
returns-then-index-place c = left_before _ c.args.place c.args.index _ (omega arith) c.row_at.ensures

pub returns-else-index-place : goal.returns-else-index-place
returns-else-index-place c =
    let next : c.args.index + 1 ≡ suc c.args.index = omega arith in
    left_after _ c.args.place c.args.index _ (omega arith) (rw next at c.row_at-else-index-place.ensures)
