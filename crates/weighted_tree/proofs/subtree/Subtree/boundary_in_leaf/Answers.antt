use Rattle.std.proofs.Common.{◌-◌, refl, ap, arith, drop, length}
use Rattle.weighted_tree.specs.Sides.{seen_from}
use Rattle.weighted_tree.proofs.Leaves.{start_passed, start_turns, open_passed}
use Rattle.weighted_tree.proofs.SeenFrom.{laws_from}
use Rattle.weighted_tree.proofs.subtree.Subtree.boundary_in_leaf.Goals as goal

pub returns-then-passes-clause-sought : goal.returns-then-passes-clause-sought
returns-then-passes-clause-sought g c = start_turns (laws_from g.met.T.Measure.Monoid.laws c.args.side) g.T.Measured.measured g.F.Fn c.args.test.now
    c.args.before (drop c.args.from (seen_from c.args.side c.args.self.now.items)) _ _ c.passes.ensures c.if-passes.true

pub returns-else-passes-clause-sought : goal.returns-else-passes-clause-sought
returns-else-passes-clause-sought g c =
    let laws = laws_from g.met.T.Measure.Monoid.laws c.args.side in
    let items = drop c.args.from (seen_from c.args.side c.args.self.now.items) in
    let to = length c.args.self.now.items - c.args.from in
    let none = ap length c.in_default.ensures.0 in
    open_passed laws g.T.Measured.measured g.F.Fn c.args.test.now c.args.before items to 0 c.args.before
    (start_passed laws g.T.Measured.measured g.F.Fn c.args.test.now c.args.before items to _ c.passes.ensures c.if-passes.false 0 refl) (omega arith)
