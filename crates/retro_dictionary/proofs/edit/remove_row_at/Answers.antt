use Rattle.std.proofs.Common.{◌≡◌, Some, slice_get, rules}
use Rattle.retro_dictionary.proofs.EditSteps.{kept-as}
use Rattle.retro_dictionary.proofs.KeptEdits.{kept-without, op-there, can-join}
use Rattle.retro_dictionary.proofs.edit.remove_row_at.Goals as goal

pub take_labelled-requires : goal.take_labelled-requires
take_labelled-requires c =
    let there : slice_get c.args.kept.now.rows c.args.place ≡ Some c.row-row.result = search rules in
    record {
      there = op-there c.args.kept.now.rows c.args.kept.now.labels c.args.kept.now.index c.args.kept.now.segments c.requires.kept c.args.place c.label_at-label.result
          c.row-row.result c.label_at-label.ensures there;
      can = can-join c.args.kept.now.rows c.args.kept.now.labels c.args.kept.now.index c.args.kept.now.segments c.requires.kept c.args.place c.label_at-label.result
          c.row-row.result c.label_at-label.ensures there;
    }

pub returns-clause-kept : goal.returns-clause-kept
returns-clause-kept c =
    let there : slice_get c.args.kept.now.rows c.args.place ≡ Some c.row-row.result = search rules in
    kept-as _ _ _ _ _ _ _ _ (kept-without c.args.kept.now.rows c.args.kept.now.labels c.args.kept.now.index c.args.kept.now.segments c.requires.kept c.args.place
    c.label_at-label.result c.row-row.result c.label_at-label.ensures there c.requires.can)
    (search rules) (search rules) (search rules) (search rules)
