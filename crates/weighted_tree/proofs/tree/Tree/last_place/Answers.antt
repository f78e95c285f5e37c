use Rattle.std.proofs.Common.{◌-◌, arith}
use Rattle.weighted_tree.proofs.FoundPlaces.{found-last, open-last}
use Rattle.weighted_tree.proofs.tree.Tree.last_place.Goals as goal

pub returns-in-Found-clause-last : goal.returns-in-Found-clause-last
returns-in-Found-clause-last g c =
    found-last g.met.T.Measure.Monoid.laws g.T.Measured.measured g.F.Fn c.args.test c.args.self.now c.args.to (c.len.result - c.args.to) c.requires.within (omega arith) _ c.in-Found.ensures.sought

pub returns-clause-last : goal.returns-clause-last
returns-clause-last g c =
    open-last g.met.T.Measure.Monoid.laws g.T.Measured.measured g.F.Fn c.args.test c.args.self.now c.args.to (c.len.result - c.args.to) c.requires.within (omega arith) _ c.in-Open.ensures.sought
