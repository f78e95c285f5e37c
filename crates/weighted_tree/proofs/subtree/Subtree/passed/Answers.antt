use Rattle.std.proofs.Common.{ap, sym, ◌∙◌}
use Rattle.weighted_tree.specs.Sides.{join_from}
use Rattle.weighted_tree.proofs.SeenFrom.{measure-seen}
use Rattle.weighted_tree.proofs.subtree.Subtree.passed.Goals as goal

pub returns-clause-value : goal.returns-clause-value
returns-clause-value g c =
    let alike = measure-seen g.met.T.Measure.Monoid.laws g.T.Measured.measured c.args.side c.args.self.now.items in
    c.join.ensures.value ∙ ap (join_from c.args.side g.T.Measure.Monoid.joined c.args.before) (c.whole.ensures.value ∙ sym alike)
