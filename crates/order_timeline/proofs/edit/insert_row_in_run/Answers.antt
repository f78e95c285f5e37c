use Rattle.std.proofs.Common.{Some, None, ◌∙◌, arith}
use Rattle.order_timeline.proofs.InRuns.{all_rows, kept_put, kept_again, ok_from, err_from}
use Rattle.order_timeline.proofs.Maps.{twice}
use Rattle.order_timeline.proofs.Totals.{run_within}
use Rattle.order_timeline.proofs.edit.insert_row_in_run.Goals as goal

pub overflow_add-count : goal.overflow_add-count
overflow_add-count c =
    omega (
      arith,
      run_within c.args.kept.now.runs c.args.roomy.run c.args.roomy.count c.requires.room.told,
      all_rows c.args.kept.now.rows c.args.kept.now.runs c.args.kept.now.names c.args.kept.now.numbers c.requires.kept.in_runs,
      c.requires.comes.room,
    )

pub returns-then-is_err-clause-kept : goal.returns-then-is_err-clause-kept
returns-then-is_err-clause-kept c =
    kept_again c.args.kept.now.rows c.insert.new.tree c.args.kept.now.runs c.args.kept.now.names c.args.kept.now.numbers
    c.forget.new.numbers c.args.row.number c.requires.kept c.requires.comes.fresh
    (err_from c.insert.result c.is_err.result _ c.is_err.ensures.value c.if-is_err.true c.insert.ensures.err)
    (twice c.args.kept.now.numbers c.add.new.numbers c.forget.new.numbers c.args.row.number (Some c.name_at-name.result) None c.in_ok-add.ensures.ok c.forget.ensures)

pub returns-clause-kept : goal.returns-clause-kept
returns-clause-kept c =
    kept_put c.args.kept.now.rows c.insert.new.tree c.args.kept.now.runs c.replace.new.tree c.args.kept.now.names
    c.args.kept.now.numbers c.add.new.numbers c.args.roomy.run c.args.place
    c.args.row c.new-2.result c.args.roomy.count c.name_at-name.result c.new-3.result c.requires.kept c.requires.comes c.requires.run c.requires.room
    c.name_at-name.ensures c.in_ok-add.ensures.ok (c.new-2.ensures ∙ c.new.ensures)
    (ok_from c.insert.result c.is_err.result _ c.is_err.ensures.value c.if-is_err.false c.insert.ensures.ok) c.new-3.ensures c.replace.ensures.items
