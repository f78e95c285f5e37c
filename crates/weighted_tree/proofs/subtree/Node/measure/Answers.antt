use Rattle.monoids.specs.MeasureLaws.{measure_of-around}
use Rattle.weighted_tree.proofs.subtree.Node.measure.Goals as goal

pub returns : goal.returns
returns g c =
    let node = c.args.self.now in
    cc (measure_of-around g.met.T.Measure.Monoid.laws g.T.Measured.measured node.left.items node.right.items node.item, c.whole.ensures.value, c.whole-2.ensures.value, c.around.ensures)
