use Rattle.std.proofs.Common.{◌≡◌, ◌++◌, take}
use Rattle.lifetime_segments.specs.Lifetimes.{items_at}
use Rattle.lifetime_segments.proofs.collect.append_few.Given as goal

abbrev pub invariant-loop-place : goal.invariant-loop-place
invariant-loop-place g l = l.items.items ≡ l.fn.items.items ++ items_at l.label (take l.place l.few)
