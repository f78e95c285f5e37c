use Rattle.std.proofs.Common.{rules, ◌≡◌, ◌∙◌, sym, ap}
use Rattle.std.specs.List.{insert}
use Rattle.retro_base.specs.State.{with_entry}
use Rattle.retro_base.specs.lemmas.EntrySteps.{put_at}
use Rattle.pq_fusion.proofs.exchange.put_entry.Goals as goal

pub returns-clause-items : goal.returns-clause-items
returns-clause-items g c =
    let same = c.as_slice.ensures.value in
    let found = c.place_of-place.ensures.place in
    let there : c.insert.new.self.items ≡ insert c.args.list.now.items c.place_of-place.result c.args.entry = search rules in
    there ∙ ap (λ xs. insert xs c.place_of-place.result c.args.entry) (sym same)
    ∙ put_at c.args.entry c.as_slice.result.now c.place_of-place.result found.within found.before found.from ∙ ap (with_entry c.args.entry) same
