use Rattle.lifetime_segments.proofs.Held.{held_has}
use Rattle.lifetime_segments.proofs.segments.Segments.ask.Goals as goal

pub ask-requires-clause-has : goal.ask-requires-clause-has
ask-requires-clause-has g c = held_has g.D.Decomposable.stands_before c.self.inside.held c.self.inside.root c.self.invariant
