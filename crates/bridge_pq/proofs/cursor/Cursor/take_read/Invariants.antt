use Rattle.std.proofs.Common.{◌≡◌, ◌-◌, ◌<◌, ◌≤◌}
use Rattle.bridge_pq.specs.Gathered.{count_to}
use Rattle.bridge_pq.proofs.cursor.Cursor.take_read.Given as goal

abbrev pub invariant-loop-place : goal.invariant-loop-place
invariant-loop-place l = record {
  same : l.self-inside ≡ l.initial.self-inside;
  live : l.place < l.self-inside.end → (l.self-inside.start ≤ l.place) × (count_to l.self-inside.entries.now l.place ≡ l.self-inside.passed);
}

abbrev pub decreases-loop-place : goal.decreases-loop-place
decreases-loop-place l = l.self-inside.end - l.place
