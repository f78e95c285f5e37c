use Rattle.std.proofs.Common.{◌≡◌, ◌++◌, drop}
use Rattle.order_labels.specs.Labels.{multiples}
use Rattle.retro_dictionary.proofs.relabel.push_labels.Given as goal

abbrev pub invariant-loop-place : goal.invariant-loop-place
invariant-loop-place l = l.list ≡ l.initial.list ++ drop l.from (multiples l.gap l.place)
