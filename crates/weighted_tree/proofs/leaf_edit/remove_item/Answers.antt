use Rattle.std.proofs.Common.{refl, ◌∙◌, arith, length}
use Rattle.std.proofs.lemmas.Option.{slice_get_read}
use Rattle.weighted_tree.proofs.Told.{told_without}
use Rattle.weighted_tree.proofs.leaf_edit.remove_item.Goals as goal

pub measure_told-requires-clause-told : goal.measure_told-requires-clause-told
measure_told-requires-clause-told g c =
    let items = c.args.items.now.items in
    let there = slice_get_read items (length items) c.args.place c.remove-item.result refl (omega arith) c.remove-item.ensures.value in
    told_without g.met.T.Measure.Monoid.laws g.T.Measured.measured items c.deref.result.now c.args.place c.args.measure.now c.requires.told
    c.without-told.result c.remove-item.result there c.measure.result c.measure.ensures (c.deref.ensures.value ∙ c.remove-item.ensures.items) c.without-told.ensures.rest

pub returns-clause-item : goal.returns-clause-item
returns-clause-item g c = slice_get_read c.args.items.now.items (length c.args.items.now.items) c.args.place _ refl (omega arith) c.remove-item.ensures.value
