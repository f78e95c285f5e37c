use Rattle.std.proofs.Common.{Some, slice_set, sym, ap, ◌∙◌, subst, arith}
use Rattle.std.specs.List.{remove}
use Rattle.order_timeline.specs.Runs.{IsInRuns}
use Rattle.order_timeline.specs.Rows.{IsOrdered}
use Rattle.order_timeline.proofs.InRuns.{all_rows, read_index, in_runs_without, in_runs_gone}
use Rattle.order_timeline.proofs.FilledRuns.{filled_gone, filled_less}
use Rattle.order_timeline.proofs.Rows.{ordered_without}
use Rattle.order_timeline.proofs.edit.remove_row.Goals as goal

pub run_of-run-requires : goal.run_of-run-requires
run_of-run-requires c = omega (arith, all_rows c.args.kept.now.rows c.args.kept.now.runs c.args.kept.now.names c.args.kept.now.numbers c.requires.kept.in_runs, c.requires.within)

pub overflow_sub-count : goal.overflow_sub-count
overflow_sub-count c = omega (arith, c.run_of-run.ensures, read_index c.args.kept.now.runs c.run_of-run.result c.rows-count.result (c.get.ensures.item ∙ ap Some (sym c.rows-count.ensures)))

pub returns-then-count-eq1-clause-kept : goal.returns-then-count-eq1-clause-kept
returns-then-count-eq1-clause-kept c =
    let ordered = subst IsOrdered (sym c.remove.ensures.items) (ordered_without c.args.kept.now.rows c.args.place c.requires.kept.ordered c.requires.within) in
    let in_runs =
    let gone = in_runs_gone c.args.kept.now.rows c.args.kept.now.runs c.args.kept.now.names c.args.kept.now.numbers c.forget.new.numbers c.run_of-run.result c.args.place
    c.row-row.result c.rows-count.result c.requires.kept.in_runs c.requires.within c.requires.kept.ordered.own_numbers
    (c.remove.ensures.item ∙ ap Some (sym (c.row-row.ensures ∙ c.value.ensures))) c.run_of-run.ensures (c.get.ensures.item ∙ ap Some (sym c.rows-count.ensures)) c.if-count-eq1.true c.forget.ensures in
    subst (λ rows. IsInRuns rows c.remove-then-count-eq1.new.tree c.remove-then-count-eq1-2.new.self c.forget.new.numbers) (sym c.remove.ensures.items)
    (subst (λ runs. IsInRuns (remove c.args.kept.now.rows c.args.place) runs c.remove-then-count-eq1-2.new.self c.forget.new.numbers) (sym c.remove-then-count-eq1.ensures.items)
    (subst (λ names. IsInRuns (remove c.args.kept.now.rows c.args.place) (remove c.args.kept.now.runs c.run_of-run.result) names c.forget.new.numbers) (sym c.remove-then-count-eq1-2.ensures) gone))
    in
    record {
      ordered = ordered;
      in_runs = in_runs;
      filled = rw c.remove-then-count-eq1.ensures.items (filled_gone c.args.kept.now.runs c.run_of-run.result c.args.place c.requires.kept.filled c.run_of-run.ensures);
    }

pub returns-clause-kept : goal.returns-clause-kept
returns-clause-kept c =
    let ordered = subst IsOrdered (sym c.remove.ensures.items) (ordered_without c.args.kept.now.rows c.args.place c.requires.kept.ordered c.requires.within) in
    let in_runs =
    let stays = in_runs_without c.args.kept.now.rows c.args.kept.now.runs c.args.kept.now.names c.args.kept.now.numbers c.forget.new.numbers c.run_of-run.result c.args.place
    c.row-row.result c.rows-count.result c.requires.kept.in_runs c.requires.within c.requires.kept.ordered.own_numbers
    (c.remove.ensures.item ∙ ap Some (sym (c.row-row.ensures ∙ c.value.ensures))) c.run_of-run.ensures (c.get.ensures.item ∙ ap Some (sym c.rows-count.ensures)) c.forget.ensures in
    subst (λ rows. IsInRuns rows c.replace.new.tree c.args.kept.now.names c.forget.new.numbers) (sym c.remove.ensures.items)
    (subst (λ runs. IsInRuns (remove c.args.kept.now.rows c.args.place) runs c.args.kept.now.names c.forget.new.numbers)
    (sym (c.replace.ensures.items ∙ ap (slice_set c.args.kept.now.runs c.run_of-run.result) c.new.ensures)) stays)
    in
    record {
      ordered = ordered;
      in_runs = in_runs;
      filled = rw (c.replace.ensures.items, c.new.ensures) (filled_less c.args.kept.now.runs c.run_of-run.result c.args.place c.rows-count.result c.requires.kept.filled c.run_of-run.ensures
          (c.get.ensures.item ∙ ap Some (sym c.rows-count.ensures)) c.if-count-eq1.false);
    }
