use Rattle.std.proofs.Common.{◌+◌, ◌-◌, length}
use Rattle.order_timeline.specs.Numbers.{IsSame}
use Rattle.order_timeline.proofs.numbers.Numbers.reach.Given as goal

abbrev pub invariant-loop-self : goal.invariant-loop-self
invariant-loop-self l = IsSame l.initial.self-inside.pages.items l.self-inside.pages.items

abbrev pub decreases-loop-self : goal.decreases-loop-self
decreases-loop-self l = l.index + 1 - length l.self-inside.pages.items
