use Rattle.std.proofs.Common.{◌∙◌}
use Rattle.retro_base.specs.lemmas.bridges.Entries.{contains_in}
use Rattle.bridge_pq.proofs.EntryEdits.{marked-at}
use Rattle.bridge_pq.proofs.entry_tree.mark_entry.Goals as goal

pub replace-requires : goal.replace-requires
replace-requires g c = record {
  within = (marked-at c.args.entry c.args.present c.args.entries.now c.place_of-place.result c.requires.rise (contains_in _ c.args.entry c.requires.among)
      c.place_of-place.ensures.before c.place_of-place.ensures.after).0;
}

pub returns-clause-marked : goal.returns-clause-marked
returns-clause-marked g c = c.replace.ensures.items ∙ (marked-at c.args.entry c.args.present c.args.entries.now c.place_of-place.result c.requires.rise (contains_in _ c.args.entry c.requires.among)
    c.place_of-place.ensures.before c.place_of-place.ensures.after).1
