use Rattle.std.proofs.Common.{◌≡◌, ap, ◌∙◌, rules}
use Rattle.std.specs.List.{insert, remove}
use Rattle.retro_dictionary.proofs.EditSteps.{all-same, kept-as, undone, labels-back}
use Rattle.retro_dictionary.proofs.KeptEdits.{kept-with, can-end, no_row-at}
use Rattle.retro_dictionary.proofs.edit.put_between.Goals as goal
use Rattle.retro_base.specs.EditedLists.{remove-insert}

pub put_labelled-requires-clause-fresh : goal.put_labelled-requires-clause-fresh
put_labelled-requires-clause-fresh c =
    no_row-at c.args.kept.now.rows c.args.kept.now.labels c.args.kept.now.index c.args.kept.now.segments c.requires.ready.all c.args.place c.args.label c.args.row c.requires.ready.can.within c.requires.between

pub put_labelled-requires-clause-undone : goal.put_labelled-requires-clause-undone
put_labelled-requires-clause-undone c =
    undone c.args.kept.now.rows c.args.kept.now.labels c.args.kept.now.index c.args.kept.now.segments c.requires.ready.all c.args.place c.args.label c.args.row c.requires.between

pub put_labelled-requires-clause-can : goal.put_labelled-requires-clause-can
put_labelled-requires-clause-can c =
    can-end c.args.kept.now.rows c.args.kept.now.labels c.args.kept.now.index c.args.kept.now.segments c.requires.ready.all c.args.place c.args.label c.args.row c.requires.ready.can.within c.requires.between

pub returns-then-is_err-clause-err : goal.returns-then-is_err-clause-err
returns-then-is_err-clause-err c =
    let put : c.put_row.new.rows ≡ insert c.args.kept.now.rows c.args.place c.args.row = search rules in
    let taken : c.remove-then-is_err.new.self ≡ remove (insert c.args.kept.now.labels c.args.place c.args.label) c.args.place = search rules in
    all-same c.args.kept.now _ _ _ _
    (c.remove.ensures.items ∙ ap (λ rows. remove rows c.args.place) put ∙ remove-insert c.args.kept.now.rows c.args.place c.args.row c.requires.ready.can.within)
    (taken ∙ labels-back c.args.kept.now.rows c.args.kept.now.labels c.args.kept.now.index c.args.kept.now.segments c.requires.ready.all c.args.place c.args.label c.requires.ready.can.within)
    (search rules) (search rules)

pub returns-clause-kept : goal.returns-clause-kept
returns-clause-kept c =
    let put : c.put_row.new.rows ≡ insert c.args.kept.now.rows c.args.place c.args.row = search rules in
    kept-as _ _ _ _ _ _ _ _
    (kept-with c.args.kept.now.rows c.args.kept.now.labels c.args.kept.now.index c.args.kept.now.segments c.requires.ready.all c.args.place c.args.label c.args.row
    c.requires.ready.can.within c.requires.between c.requires.ready.can)
    put (search rules) (search rules) (search rules)
