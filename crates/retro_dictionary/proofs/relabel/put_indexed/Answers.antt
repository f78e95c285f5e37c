use Rattle.std.proofs.Common.{◌≡◌, List, ap, ◌∙◌, rules}
use Rattle.std.specs.List.{insert, remove}
use Rattle.retro_base.specs.declared.row.Row.{Row}
use Rattle.retro_dictionary.specs.declared.labelled_rows.LabelledRows.{LabelledRows}
use Rattle.retro_dictionary.proofs.relabel.put_indexed.Goals as goal
use Rattle.retro_base.specs.EditedLists.{remove-insert}

pub returns-then-is_err-clause-err : goal.returns-then-is_err-clause-err
returns-then-is_err-clause-err c =
    let put : c.insert.new.tree ≡ insert c.args.kept.now.rows c.args.place c.args.row = c.in_ok-insert.ensures.ok ∙ ap (insert c.args.kept.now.rows c.args.place) (c.new-2.ensures ∙ c.new.ensures) in
    let holding : List Row → LabelledRows = λ rows. record c.args.kept.now { rows = rows } in
    let same : c.label_anew.new.kept ≡ holding c.insert.new.tree = search rules in
    let renewed : LabelledRows → LabelledRows = λ kept. record kept { rows = c.remove.new.tree } in
    ap renewed same
    ∙ ap holding
    (c.remove.ensures.items ∙ ap (λ kept. remove kept.rows c.args.place) (same ∙ ap holding put) ∙ remove-insert c.args.kept.now.rows c.args.place c.args.row c.requires.within)
