use Rattle.std.proofs.Common.{◌≡◌, ◌-◌, length}
use Rattle.order_timeline.specs.Runs.{IsNotBefore}
use Rattle.order_timeline.proofs.find.place_from.Given as goal

abbrev pub invariant-loop-place : goal.invariant-loop-place
invariant-loop-place l = record {
  window : length l.window ≡ 32;
  before : IsNotBefore l.rows l.place l.number;
}

abbrev pub decreases-loop-place : goal.decreases-loop-place
decreases-loop-place l = length l.rows - l.place
