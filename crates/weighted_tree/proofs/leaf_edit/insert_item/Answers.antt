use Rattle.std.proofs.Common.{ap, ◌∙◌, arith}
use Rattle.std.specs.List.{insert}
use Rattle.monoids.specs.MeasureLaws.{items-measure_of}
use Rattle.weighted_tree.proofs.Told.{told_with}
use Rattle.weighted_tree.proofs.leaf_edit.insert_item.Goals as goal

pub with-told-requires : goal.with-told-requires
with-told-requires g c = omega (
  arith,
  ap g.T.Measure.Monoid.items_of c.requires.told ∙ items-measure_of g.met.T.Measure.Monoid.laws g.T.Measured.measured g.met.T.Measured.single c.args.items.now.items,
  ap g.T.Measure.Monoid.items_of c.measure.ensures ∙ g.met.T.Measured.single c.args.item,
  c.requires.room,
)

pub measure_told-requires-clause-told : goal.measure_told-requires-clause-told
measure_told-requires-clause-told g c = told_with g.met.T.Measure.Monoid.laws g.T.Measured.measured c.args.items.now.items c.deref.result.now c.args.place
    c.args.measure.now c.requires.told c.with-told.result c.args.item c.measure.result c.measure.ensures
    (c.deref.ensures.value ∙ c.in-Ok.ensures.items ∙ ap (λ items. insert items c.args.place c.args.item) c.make_room.ensures.items) c.with-told.ensures
