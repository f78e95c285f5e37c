use Rattle.std.proofs.Common.{◌≡◌, ◌+◌, ◌*◌, ◌≤◌, length}
use Rattle.tree_tests.proofs.weighted.fill.Given as goal

abbrev pub invariant-loop-count : goal.invariant-loop-count
invariant-loop-count g l = (length l.tree ≡ l.count) × (l.steps ≤ l.initial.steps + 120 * l.count)
