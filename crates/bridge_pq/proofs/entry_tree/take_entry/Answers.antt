use Rattle.std.proofs.Common.{◌∙◌}
use Rattle.retro_base.specs.lemmas.bridges.Entries.{contains_in}
use Rattle.bridge_pq.proofs.EntryEdits.{without-at}
use Rattle.bridge_pq.proofs.entry_tree.take_entry.Goals as goal

pub remove-requires : goal.remove-requires
remove-requires g c = record {
  within = (without-at c.args.entry c.args.entries.now c.place_of-place.result c.requires.rise (contains_in _ c.args.entry c.requires.among)
      c.place_of-place.ensures.before c.place_of-place.ensures.after).0;
}

pub returns-clause-taken : goal.returns-clause-taken
returns-clause-taken g c = c.remove.ensures.items ∙ (without-at c.args.entry c.args.entries.now c.place_of-place.result c.requires.rise (contains_in _ c.args.entry c.requires.among)
    c.place_of-place.ensures.before c.place_of-place.ensures.after).1
