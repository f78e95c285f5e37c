use Rattle.std.proofs.Common.{subst}
use Rattle.std.specs.List.{AllByRecursion}
use Rattle.lifetime_segments.specs.Lifetimes.{IsInRange}
use Rattle.lifetime_segments.proofs.Held.{held_in_range}
use Rattle.lifetime_segments.proofs.segments.Segments.take.Goals as goal

pub returns-clause-in_range : goal.returns-clause-in_range
returns-clause-in_range g c = subst (AllByRecursion IsInRange) c.self.view_is (held_in_range g.D.Decomposable.stands_before c.self.inside.held c.self.inside.root c.self.invariant)
