use Rattle.std.proofs.Common.{◌≡◌, ◌++◌, drop}
use Rattle.order_labels.specs.Labels.{multiples}
use Rattle.order_labels.proofs.spread.spread.Given as goal

abbrev pub invariant-loop-place : goal.invariant-loop-place
invariant-loop-place l = l.rows ≡ multiples l.gap l.place ++ drop l.place l.initial.rows
