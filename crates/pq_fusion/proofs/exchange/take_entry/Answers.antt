use Rattle.std.proofs.Common.{length, arith, ◌<◌, ◌∙◌, sym, ap, subst}
use Rattle.std.specs.List.{remove}
use Rattle.retro_base.specs.EntriesInOrder.{AreInOrder}
use Rattle.retro_base.specs.State.{with_entry}
use Rattle.pq_fusion.specs.Exchanges.{Has}
use Rattle.pq_fusion.proofs.Swapped.{removed}
use Rattle.pq_fusion.proofs.exchange.take_entry.Goals as goal

pub remove-requires : goal.remove-requires
remove-requires g c =
    let items = c.as_slice.result.now in
    let same = c.as_slice.ensures.value in
    let found = c.place_of-place.ensures.place in
    let there = removed c.args.entry items c.place_of-place.result found.within (subst AreInOrder (sym same) c.requires.order) (subst (Has c.args.entry) (sym same) c.requires.there) found.before found.from in
    let within : c.place_of-place.result < length items = there.0 in
    omega (arith, c.as_slice.ensures.len, within)

pub returns-clause-items : goal.returns-clause-items
returns-clause-items g c =
    let same = c.as_slice.ensures.value in
    let found = c.place_of-place.ensures.place in
    let there = removed c.args.entry c.as_slice.result.now c.place_of-place.result found.within (subst AreInOrder (sym same) c.requires.order) (subst (Has c.args.entry) (sym same) c.requires.there) found.before found.from in
    ap (with_entry c.args.entry) (c.remove.ensures.items ∙ ap (λ xs. remove xs c.place_of-place.result) (sym same)) ∙ there.1.items ∙ same

pub returns-clause-order : goal.returns-clause-order
returns-clause-order g c =
    let same = c.as_slice.ensures.value in
    let found = c.place_of-place.ensures.place in
    let there = removed c.args.entry c.as_slice.result.now c.place_of-place.result found.within (subst AreInOrder (sym same) c.requires.order) (subst (Has c.args.entry) (sym same) c.requires.there) found.before found.from in
    subst AreInOrder (sym (c.remove.ensures.items ∙ ap (λ xs. remove xs c.place_of-place.result) (sym same))) there.1.order
