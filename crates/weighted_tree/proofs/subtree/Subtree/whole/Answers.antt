use Rattle.std.proofs.Common.{ap, sym, ◌∙◌, subst, length}
use Rattle.monoids.specs.MeasureLaws.{items-measure_of}
use Rattle.weighted_tree.specs.Nodes.{part_of, node_items, IsSound}
use Rattle.weighted_tree.proofs.subtree.Subtree.whole.Goals as goal

pub returns-in-Leaf-clause-items : goal.returns-in-Leaf-clause-items
returns-in-Leaf-clause-items g c =
    let sound = subst (IsSound g.T.Measure.Monoid.unit_value g.T.Measure.Monoid.joined g.T.Measured.measured) c.in-Leaf.is c.self.invariant in
    let part = sym (ap part_of c.in-Leaf.is) ∙ c.self.view_is in
    ap g.T.Measure.Monoid.items_of sound.measure_is
    ∙ items-measure_of g.met.T.Measure.Monoid.laws g.T.Measured.measured g.met.T.Measured.single c.in-Leaf.items.items.items
    ∙ ap (λ part. length part.items) part

pub returns-in-Full-clause-items : goal.returns-in-Full-clause-items
returns-in-Full-clause-items g c =
    let sound = subst (IsSound g.T.Measure.Monoid.unit_value g.T.Measure.Monoid.joined g.T.Measured.measured) c.in-Full.is c.self.invariant in
    let part = sym (ap part_of c.in-Full.is) ∙ c.self.view_is in
    ap g.T.Measure.Monoid.items_of sound.measure_is
    ∙ items-measure_of g.met.T.Measure.Monoid.laws g.T.Measured.measured g.met.T.Measured.single (node_items c.in-Full.node.node.value)
    ∙ ap (λ part. length part.items) part
