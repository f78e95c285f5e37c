use Rattle.std.proofs.Common.{ap, ◌∙◌, refl, arith, length}
use Rattle.std.proofs.lemmas.Option.{slice_get_read}
use Rattle.monoids.specs.MeasureLaws.{items-measure_of}
use Rattle.weighted_tree.proofs.Told.{told_exchanged}
use Rattle.weighted_tree.proofs.leaf_edit.put_for.Goals as goal

pub exchanged-told-requires : goal.exchanged-told-requires
exchanged-told-requires g c = record {
  fits = omega (
    arith,
    ap g.T.Measure.Monoid.items_of c.requires.told ∙ items-measure_of g.met.T.Measure.Monoid.laws g.T.Measured.measured g.met.T.Measured.single c.args.items.now.items,
    c.requires.few,
  );
  few = omega (
    arith,
    ap g.T.Measure.Monoid.items_of c.measure.ensures ∙ g.met.T.Measured.single c.index.result.now,
    ap g.T.Measure.Monoid.items_of c.measure-2.ensures ∙ g.met.T.Measured.single c.args.item,
  );
}

pub measure_told-requires-clause-told : goal.measure_told-requires-clause-told
measure_told-requires-clause-told g c =
    let items = c.args.items.now.items in
    let there = slice_get_read items (length items) c.args.place c.index.result.now refl (omega arith) c.index.ensures in
    told_exchanged g.met.T.Measure.Monoid.laws g.T.Measured.measured items c.deref.result.now c.args.place c.args.measure.now c.requires.told
    c.exchanged-told.result c.index.result.now there c.measure.result c.measure.ensures c.args.item c.measure-2.result c.measure-2.ensures
    c.deref.ensures.value c.exchanged-told.ensures

pub returns-clause-item : goal.returns-clause-item
returns-clause-item g c = slice_get_read c.args.items.now.items (length c.args.items.now.items) c.args.place _ refl (omega arith) c.index.ensures
