use Rattle.std.proofs.Common.{◌≡◌, ◌+◌, ◌*◌, drop}
use Rattle.retro_base.specs.Limits.{most_rows}
use Rattle.timeline_undo.specs.WalkCounts.{IsUpTo, walked}
use Rattle.timeline_undo.proofs.walk_count.WalkCount.along.Given as goal

abbrev pub invariant-loop-row : goal.invariant-loop-row
invariant-loop-row l = record {
  rest : walked l.rows l.fn.self ≡ walked (drop l.row-index l.rows) l.count;
  up_to : IsUpTo l.count (2 * most_rows + l.row-index);
}
