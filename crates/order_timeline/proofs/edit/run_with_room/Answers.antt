use Rattle.std.proofs.Common.{Some, sym, ap, ◌∙◌, arith}
use Rattle.order_timeline.proofs.FilledRuns.{count_few, first_of_divided, second_of_divided}
use Rattle.order_timeline.proofs.InRuns.{all_rows, few_divided, first_takes, second_takes}
use Rattle.order_timeline.proofs.Totals.{run_within}
use Rattle.order_timeline.proofs.edit.run_with_room.Goals as goal

pub run_for-run-requires-clause-told : goal.run_for-run-requires-clause-told
run_for-run-requires-clause-told c =
    omega (arith, c.len.ensures, all_rows c.args.kept.now.rows c.args.kept.now.runs c.args.kept.now.names c.args.kept.now.numbers c.requires.kept.in_runs)

pub start_of-start-requires-clause-few : goal.start_of-start-requires-clause-few
start_of-start-requires-clause-few c =
    omega (arith, c.requires.kept.ordered.few, all_rows c.args.kept.now.rows c.args.kept.now.runs c.args.kept.now.names c.args.kept.now.numbers c.requires.kept.in_runs)

pub overflow_add-start : goal.overflow_add-start
overflow_add-start c =
    omega (
      arith,
      c.start_of-start.ensures,
      c.in_ok-half.ensures.less,
      run_within c.args.kept.now.runs c.run_for-run.result c.rows-count.result (c.get.ensures.item ∙ ap Some (sym c.rows-count.ensures)),
      c.requires.kept.ordered.few,
      all_rows c.args.kept.now.rows c.args.kept.now.runs c.args.kept.now.names c.args.kept.now.numbers c.requires.kept.in_runs,
    )

pub overflow_add-result : goal.overflow_add-result
overflow_add-result c =
    let few = few_divided c.args.kept.now.rows c.args.kept.now.runs c.args.kept.now.names c.args.kept.now.numbers c.run_for-run.result c.rows-count.result c.requires.kept
    (c.get.ensures.item ∙ ap Some (sym c.rows-count.ensures)) (omega arith) in
    omega (arith, few.there, few.runs_few)

pub returns-then-place-start-clause-run : goal.returns-then-place-start-clause-run
returns-then-place-start-clause-run c =
    first_takes c.args.kept.now.runs c.divide.new.kept.runs c.run_for-run.result c.rows-count.result c.in_ok-half.half c.args.place c.run_for-run.ensures
    (c.get.ensures.item ∙ ap Some (sym c.rows-count.ensures)) (omega (arith, c.in_ok-half.ensures.less)) c.in_ok-half.ensures.runs (omega (arith, c.start_of-start.ensures))

pub returns-then-place-start-clause-room : goal.returns-then-place-start-clause-room
returns-then-place-start-clause-room c =
    let long = c.get.ensures.item ∙ ap Some (sym c.rows-count.ensures) in
    record {
      told = first_of_divided c.args.kept.now.runs c.divide.new.kept.runs c.run_for-run.result c.rows-count.result c.in_ok-half.half c.run_for-run.ensures.there c.in_ok-half.ensures.runs;
      few = omega (arith, c.in_ok-half.ensures.less, count_few c.args.kept.now.runs c.run_for-run.result c.rows-count.result c.requires.kept.filled long);
    }

pub returns-else-place-start-clause-run : goal.returns-else-place-start-clause-run
returns-else-place-start-clause-run c =
    second_takes c.args.kept.now.runs c.divide.new.kept.runs c.run_for-run.result c.rows-count.result c.in_ok-half.half c.args.place c.run_for-run.ensures
    (c.get.ensures.item ∙ ap Some (sym c.rows-count.ensures)) (omega (arith, c.in_ok-half.ensures.less)) c.in_ok-half.ensures.runs (omega (arith, c.start_of-start.ensures))

pub returns-else-place-start-clause-room : goal.returns-else-place-start-clause-room
returns-else-place-start-clause-room c =
    let long = c.get.ensures.item ∙ ap Some (sym c.rows-count.ensures) in
    record {
      told = second_of_divided c.args.kept.now.runs c.divide.new.kept.runs c.run_for-run.result c.rows-count.result c.in_ok-half.half c.run_for-run.ensures.there c.in_ok-half.ensures.runs;
      few = omega (arith, c.in_ok-half.ensures.some, c.in_ok-half.ensures.less, count_few c.args.kept.now.runs c.run_for-run.result c.rows-count.result c.requires.kept.filled long);
    }
