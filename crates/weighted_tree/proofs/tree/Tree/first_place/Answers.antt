use Rattle.weighted_tree.proofs.FoundPlaces.{found-first, open-first}
use Rattle.weighted_tree.proofs.tree.Tree.first_place.Goals as goal

pub returns-in-Found-clause-first : goal.returns-in-Found-clause-first
returns-in-Found-clause-first g c = found-first g.met.T.Measure.Monoid.laws g.T.Measured.measured g.F.Fn c.args.test c.args.self.now c.args.from c.requires.within _ c.in-Found.ensures.sought

pub returns-clause-first : goal.returns-clause-first
returns-clause-first g c = open-first g.met.T.Measure.Monoid.laws g.T.Measured.measured g.F.Fn c.args.test c.args.self.now c.args.from c.requires.within _ c.in-Open.ensures.sought
