use Rattle.std.proofs.Common.{◌≡◌, ◌-◌, ◌+◌, ◌≤◌, slice_range}
use Rattle.timeline_undo.specs.WalkCounts.{IsUpTo, walked}
use Rattle.timeline_undo.proofs.scan.walk.Given as goal

abbrev pub invariant-loop-place : goal.invariant-loop-place
invariant-loop-place l = record {
  begun : l.fn.from ≤ l.place;
  within : l.place ≤ l.to;
  rest : walked (slice_range l.timeline l.fn.from l.to) l.fn.count ≡ walked (slice_range l.timeline l.place l.to) l.count;
  up_to : IsUpTo l.count (l.place + 1);
}

abbrev pub decreases-loop-place : goal.decreases-loop-place
decreases-loop-place l = l.to - l.place
