use Rattle.std.proofs.Common.{◌≡◌, ap, ◌∙◌, arith, rules}
use Rattle.std.specs.List.{insert, remove}
use Rattle.retro_base.specs.EditedLists.{remove-insert}
use Rattle.retro_dictionary.proofs.edit.put_row.Goals as goal

pub returns-then-is_err-clause-labels_err : goal.returns-then-is_err-clause-labels_err
returns-then-is_err-clause-labels_err c =
    let put : c.insert_labelled.new.self ≡ insert c.args.labels.now c.args.place c.args.label = search rules in
    c.remove.ensures ∙ ap (λ labels. remove labels c.args.place) put ∙ remove-insert c.args.labels.now c.args.place c.args.label (omega (arith, c.requires.within, c.requires.as_many))
