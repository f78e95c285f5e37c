use Rattle.lifetime_segments.proofs.Held.{held_none}
use Rattle.lifetime_segments.proofs.segments.Segments.new.Goals as goal

pub invariant_of-result : goal.invariant_of-result
invariant_of-result g c = held_none g.D.Decomposable.stands_before c.new.result c.new-2.result c.new.ensures c.new-2.ensures
