use Rattle.std.proofs.Common.{◌≡◌, ap, arith, subst, length, ◌∙◌}
use Rattle.std.specs.Prelude.{IfSome}
use Rattle.monoids.specs.MeasureLaws.{items-measure_of}
use Rattle.weighted_tree.specs.Measures.{measure_in}
use Rattle.weighted_tree.specs.Nodes.{node_items, items_of, nodes_of, HasChangedSide, IsUnsettled}
use Rattle.weighted_tree.proofs.subtree.Link.settle_told.Goals as goal

pub returns-in-Some-clause-sound : goal.returns-in-Some-clause-sound
returns-in-Some-clause-sound g c =
    let node = c.in-Full.node.node.value in
    let here = ap items_of c.in-Full.is in
    let count = ap nodes_of c.in-Full.is in
    let changed : HasChangedSide c.in-Full.nodes node = subst IsUnsettled c.in-Full.is c.requires.nearly in
    let whole : c.in-Some.whole ≡ measure_in g.T.Measured g.T.Measure.Monoid (node_items node) =
    subst (λ told. IfSome told (λ measure. measure ≡ measure_in g.T.Measured g.T.Measure.Monoid (items_of c.args.self.now))) c.in-Some.is c.requires.told
    ∙ ap (measure_in g.T.Measured g.T.Measure.Monoid) here in
    record {
      size_is = c.items.ensures ∙ ap g.T.Measure.Monoid.items_of whole ∙ items-measure_of g.met.T.Measure.Monoid.laws g.T.Measured.measured g.met.T.Measured.single (node_items node);
      nodes_are = omega (arith, c.if-count-nodes.true, c.requires.count, count);
      measure_is = whole;
      balanced = changed.unchanged (omega (arith, c.if-count-nodes.true, c.requires.count, count));
      fits = changed.fits;
      few = omega (arith, c.if-count-nodes.true, c.requires.few, ap length here);
    }
