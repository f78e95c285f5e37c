use Rattle.std.proofs.Common.{◌≡◌, take}
use Rattle.lifetime_segments.specs.Lifetimes.{items_at}
use Rattle.lifetime_segments.specs.Ordered.{in_order}
use Rattle.lifetime_segments.proofs.search.ask_few.Given as goal

abbrev pub invariant-loop-place : goal.invariant-loop-place
invariant-loop-place g l = l.part ≡ g.D.Decomposable.answer (in_order g.D.Decomposable.stands_before (items_at l.label (take l.place l.few))) l.query
