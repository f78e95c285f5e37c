use Rattle.std.proofs.Common.{ap, arith}
use Rattle.weighted_tree.proofs.subtree.Node.passed.Goals as goal

pub join-requires : goal.join-requires
join-requires g c = omega (arith, ap g.T.Measure.Monoid.items_of c.measure.ensures, g.met.T.Measured.single c.args.self.now.item)

pub returns-clause-items : goal.returns-clause-items
returns-clause-items g c = omega (arith, c.join.ensures.items, ap g.T.Measure.Monoid.items_of c.measure.ensures, g.met.T.Measured.single c.args.self.now.item)
