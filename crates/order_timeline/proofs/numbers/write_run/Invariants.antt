use Rattle.std.proofs.Common.{◌-◌, List, ℕ}
use Rattle.order_timeline.specs.Numbers.{IsNamed, written}
use Rattle.order_timeline.proofs.numbers.write_run.Given as goal

abbrev pub invariant-loop-place : goal.invariant-loop-place
invariant-loop-place l = (names : List ℕ) → IsNamed l.rows names l.initial.numbers → IsNamed l.rows (written names l.from (l.place - l.from) l.name) l.numbers
