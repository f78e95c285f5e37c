use Rattle.std.proofs.Common.{ap, sym, ◌∙◌, subst, arith, length, length-append, ◌∷◌, []}
use Rattle.monoids.specs.MeasureLaws.{items-measure_of}
use Rattle.weighted_tree.specs.Measures.{measure_in}
use Rattle.weighted_tree.specs.Nodes.{part_of, IsSound}
use Rattle.weighted_tree.proofs.Leaves.{measure_next}
use Rattle.weighted_tree.proofs.subtree.Subtree.push_in_leaf.Goals as goal

pub join-requires : goal.join-requires
join-requires g c =
    let items = c.in-Leaf.items.items.items in
    let sound = subst (IsSound g.T.Measure.Monoid.unit_value g.T.Measure.Monoid.joined g.T.Measured.measured) c.in-Leaf.is c.self.invariant in
    let whole = ap (λ part. length part.items) (ap part_of c.in-Leaf.is) in
    omega (
      arith,
      ap g.T.Measure.Monoid.items_of sound.measure_is ∙ items-measure_of g.met.T.Measure.Monoid.laws g.T.Measured.measured g.met.T.Measured.single items,
      ap g.T.Measure.Monoid.items_of c.measure.ensures ∙ g.met.T.Measured.single c.args.item,
      whole,
      ap (λ part. length part.items) c.self.view_is,
      c.requires.room,
    )

pub invariant_of-self-2 : goal.invariant_of-self-2
invariant_of-self-2 g c =
    let items = c.in-Leaf.items.items.items in
    let sound = subst (IsSound g.T.Measure.Monoid.unit_value g.T.Measure.Monoid.joined g.T.Measured.measured) c.in-Leaf.is c.self.invariant in
    let whole = ap (λ part. length part.items) (ap part_of c.in-Leaf.is) in
    let longer = c.in_ok-push.ensures.ok in
    record {
      measure_is =
          c.join.ensures
          ∙ ap (λ m. g.T.Measure.Monoid.joined m c.measure.result) sound.measure_is
          ∙ ap (g.T.Measure.Monoid.joined (measure_in g.T.Measured g.T.Measure.Monoid items)) c.measure.ensures
          ∙ sym (measure_next g.met.T.Measure.Monoid.laws g.T.Measured.measured items c.args.item)
          ∙ ap (measure_in g.T.Measured g.T.Measure.Monoid) (sym longer);
      few = omega (arith, ap length longer, length-append items (c.args.item ∷ []), whole, ap (λ part. length part.items) c.self.view_is, c.requires.room);
    }
