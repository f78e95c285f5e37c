-- A timeline is still one after each edit that is accepted.
use Rattle.std.proofs.Common.{◌≡◌, ◌≢◌, ℕ, ◌+◌, ◌<◌, ◌≤◌, List, arith}
use Rattle.std.specs.List.{insert, remove}
use Rattle.retro_base.specs.declared.kind.Kind.{Kind}
use Rattle.retro_base.specs.declared.row.Row.{Row}
use Rattle.retro_base.specs.Limits.{next_limit}
use Rattle.retro_base.specs.Timeline.{IsReplayable, IsTimeline, IsFresh}
use Rattle.retro_base.specs.Order.{Fits}
use Rattle.retro_base.specs.OrderLaws.{all_weaker, all_with, all_without, times_with, times_without}

-- the number that comes next is fresh
pub next_is_fresh : (kind : Kind) (rows : List Row) (next : ℕ) → IsTimeline kind rows next → IsFresh next rows
next_is_fresh kind rows next timeline =
    all_weaker (λ row. (1 ≤ row.number) × (row.number < next)) (λ row. row.number ≢ next) rows (λ row h same. omega arith) timeline.numbered

-- a row is put in where its time fits, and draws the next number
pub timeline_with : (kind : Kind) (rows : List Row) (next place : ℕ) (row : Row) → IsTimeline kind rows next → next < next_limit → row.number ≡ next
    → Fits rows place row.time → IsReplayable kind (insert rows place row) → IsTimeline kind (insert rows place row) (next + 1)
timeline_with kind rows next place row timeline below drawn fits replayable = record {
  replayable = replayable;
  in_order = times_with rows place row timeline.in_order fits;
  numbered = all_with (λ r. (1 ≤ r.number) × (r.number < next + 1)) rows place row
      (all_weaker (λ r. (1 ≤ r.number) × (r.number < next)) _ rows (λ r h. (omega arith, omega arith)) timeline.numbered)
      (omega (arith, timeline.next_in_range.0), omega arith);
  next_in_range = (omega arith, omega arith);
}

-- a row is taken out
pub timeline_without : (kind : Kind) (rows : List Row) (next place : ℕ) → IsTimeline kind rows next → IsReplayable kind (remove rows place)
    → IsTimeline kind (remove rows place) next
timeline_without kind rows next place timeline replayable = record {
  replayable = replayable;
  in_order = times_without rows place timeline.in_order;
  numbered = all_without (λ r. (1 ≤ r.number) × (r.number < next)) rows place timeline.numbered;
  next_in_range = timeline.next_in_range;
}
