use Rattle.std.proofs.Common.{◌≡◌, ◌+◌, slice_set, length, sym, ap, ◌∙◌, subst, arith}
use Rattle.std.specs.List.{insert, remove}
use Rattle.std.proofs.lemmas.List.{length-set}
use Rattle.std.proofs.lemmas.List.Edits.{length-insert}
use Rattle.order_timeline.specs.Runs.{divided, RepresentsRows}
use Rattle.order_timeline.proofs.FilledRuns.{filled_divided}
use Rattle.order_timeline.proofs.InRuns.{all_rows, few_divided, rows_of_divided, start_of_divided, in_runs_after}
use Rattle.retro_base.specs.EditedLists.{remove-insert}
use Rattle.order_timeline.proofs.Totals.{run_within}
use Rattle.order_timeline.proofs.divide.divide.Goals as goal

pub overflow_add-run : goal.overflow_add-run
overflow_add-run c =
    let few = few_divided c.args.kept.now.rows c.args.kept.now.runs c.args.kept.now.names c.args.kept.now.numbers c.args.run c.args.count c.requires.kept c.requires.there c.requires.more in
    omega (arith, few.there, few.runs_few, few.names_few)

pub overflow_add-run-2 : goal.overflow_add-run-2
overflow_add-run-2 c =
    let few = few_divided c.args.kept.now.rows c.args.kept.now.runs c.args.kept.now.names c.args.kept.now.numbers c.args.run c.args.count c.requires.kept c.requires.there c.requires.more in
    omega (arith, few.there, few.runs_few, few.names_few)

pub overflow_add-run-3 : goal.overflow_add-run-3
overflow_add-run-3 c =
    let few = few_divided c.args.kept.now.rows c.args.kept.now.runs c.args.kept.now.names c.args.kept.now.numbers c.args.run c.args.count c.requires.kept c.requires.there c.requires.more in
    omega (arith, few.there, few.runs_few, few.names_few)

pub overflow_add-run-in-Ok : goal.overflow_add-run-in-Ok
overflow_add-run-in-Ok c =
    let few = few_divided c.args.kept.now.rows c.args.kept.now.runs c.args.kept.now.names c.args.kept.now.numbers c.args.run c.args.count c.requires.kept c.requires.there c.requires.more in
    omega (arith, few.there, few.runs_few, few.names_few)

pub overflow_add-run-in-Err : goal.overflow_add-run-in-Err
overflow_add-run-in-Err c =
    let few = few_divided c.args.kept.now.rows c.args.kept.now.runs c.args.kept.now.names c.args.kept.now.numbers c.args.run c.args.count c.requires.kept c.requires.there c.requires.more in
    omega (arith, few.there, few.runs_few, few.names_few)

pub insert-requires-clause-within : goal.insert-requires-clause-within
insert-requires-clause-within c =
    let few = few_divided c.args.kept.now.rows c.args.kept.now.runs c.args.kept.now.names c.args.kept.now.numbers c.args.run c.args.count c.requires.kept c.requires.there c.requires.more in
    omega (arith, few.there, few.runs_few, few.names_few)

pub insert-requires-clause-room : goal.insert-requires-clause-room
insert-requires-clause-room c =
    let few = few_divided c.args.kept.now.rows c.args.kept.now.runs c.args.kept.now.names c.args.kept.now.numbers c.args.run c.args.count c.requires.kept c.requires.there c.requires.more in
    omega (arith, few.there, few.runs_few, few.names_few)

pub insert-requires-2-clause-within : goal.insert-requires-2-clause-within
insert-requires-2-clause-within c =
    let few = few_divided c.args.kept.now.rows c.args.kept.now.runs c.args.kept.now.names c.args.kept.now.numbers c.args.run c.args.count c.requires.kept c.requires.there c.requires.more in
    omega (arith, few.there, few.runs_few, few.names_few)

pub insert-requires-2-clause-room : goal.insert-requires-2-clause-room
insert-requires-2-clause-room c =
    let few = few_divided c.args.kept.now.rows c.args.kept.now.runs c.args.kept.now.names c.args.kept.now.numbers c.args.run c.args.count c.requires.kept c.requires.there c.requires.more in
    omega (arith, few.there, few.runs_few, few.names_few)

pub replace-requires : goal.replace-requires
replace-requires c =
    let few = few_divided c.args.kept.now.rows c.args.kept.now.runs c.args.kept.now.names c.args.kept.now.numbers c.args.run c.args.count c.requires.kept c.requires.there c.requires.more in
    record { within = omega (arith, few.there, few.runs_few, few.names_few, ap length c.in_ok-insert.ensures.ok, length-insert c.args.kept.now.runs (c.args.run + 1) c.new.result (omega (arith, few.there))) }

pub remove-requires : goal.remove-requires
remove-requires c =
    let few = few_divided c.args.kept.now.rows c.args.kept.now.runs c.args.kept.now.names c.args.kept.now.numbers c.args.run c.args.count c.requires.kept c.requires.there c.requires.more in
    record { within = omega (arith, few.there, few.runs_few, few.names_few, ap length c.in_ok-insert.ensures.ok, length-insert c.args.kept.now.runs (c.args.run + 1) c.new.result (omega (arith, few.there))) }

pub start_of-from-requires-clause-within : goal.start_of-from-requires-clause-within
start_of-from-requires-clause-within c =
    let few = few_divided c.args.kept.now.rows c.args.kept.now.runs c.args.kept.now.names c.args.kept.now.numbers c.args.run c.args.count c.requires.kept c.requires.there c.requires.more in
    let more : c.replace.new.tree ≡ divided c.args.kept.now.runs c.args.run c.args.count c.first_part-half.result =
    c.replace.ensures.items ∙ ap (λ item. slice_set c.insert.new.tree c.args.run item) c.new-in-Ok.ensures
    ∙ ap (λ runs. slice_set runs c.args.run (c.first_part-half.result)) (c.in_ok-insert.ensures.ok ∙ ap (insert c.args.kept.now.runs (c.args.run + 1)) c.new.ensures) in
    omega (
      arith,
      few.there,
      ap length c.replace.ensures.items,
      length-set c.insert.new.tree c.args.run c.new-in-Ok.result,
      ap length c.in_ok-insert.ensures.ok,
      length-insert c.args.kept.now.runs (c.args.run + 1) c.new.result (omega (arith, few.there)),
    )

pub start_of-from-requires-clause-few : goal.start_of-from-requires-clause-few
start_of-from-requires-clause-few c =
    let more : c.replace.new.tree ≡ divided c.args.kept.now.runs c.args.run c.args.count c.first_part-half.result =
    c.replace.ensures.items ∙ ap (λ item. slice_set c.insert.new.tree c.args.run item) c.new-in-Ok.ensures
    ∙ ap (λ runs. slice_set runs c.args.run (c.first_part-half.result)) (c.in_ok-insert.ensures.ok ∙ ap (insert c.args.kept.now.runs (c.args.run + 1)) c.new.ensures) in
    let all = rows_of_divided c.args.kept.now.runs c.replace.new.tree c.args.run c.args.count (c.first_part-half.result) c.requires.there (omega (arith, c.first_part-half.ensures.less)) more
    ∙ all_rows c.args.kept.now.rows c.args.kept.now.runs c.args.kept.now.names c.args.kept.now.numbers c.requires.kept.in_runs in
    omega (arith, all, c.requires.kept.ordered.few)

pub write_run-requires-clause-within : goal.write_run-requires-clause-within
write_run-requires-clause-within c =
    let more : c.replace.new.tree ≡ divided c.args.kept.now.runs c.args.run c.args.count c.first_part-half.result =
    c.replace.ensures.items ∙ ap (λ item. slice_set c.insert.new.tree c.args.run item) c.new-in-Ok.ensures
    ∙ ap (λ runs. slice_set runs c.args.run (c.first_part-half.result)) (c.in_ok-insert.ensures.ok ∙ ap (insert c.args.kept.now.runs (c.args.run + 1)) c.new.ensures) in
    omega (
      arith,
      c.start_of-from.ensures,
      start_of_divided c.args.kept.now.runs c.replace.new.tree c.args.run c.args.count (c.first_part-half.result) c.requires.there more,
      run_within c.args.kept.now.runs c.args.run c.args.count c.requires.there,
      all_rows c.args.kept.now.rows c.args.kept.now.runs c.args.kept.now.names c.args.kept.now.numbers c.requires.kept.in_runs,
      c.first_part-half.ensures.less,
    )

pub returns-in-Ok-clause-kept : goal.returns-in-Ok-clause-kept
returns-in-Ok-clause-kept c =
    let few = few_divided c.args.kept.now.rows c.args.kept.now.runs c.args.kept.now.names c.args.kept.now.numbers c.args.run c.args.count c.requires.kept c.requires.there c.requires.more in
    let more : c.replace.new.tree ≡ divided c.args.kept.now.runs c.args.run c.args.count c.first_part-half.result =
    c.replace.ensures.items ∙ ap (λ item. slice_set c.insert.new.tree c.args.run item) c.new-in-Ok.ensures
    ∙ ap (λ runs. slice_set runs c.args.run (c.first_part-half.result)) (c.in_ok-insert.ensures.ok ∙ ap (insert c.args.kept.now.runs (c.args.run + 1)) c.new.ensures) in
    record {
      ordered = c.requires.kept.ordered;
      in_runs = in_runs_after c.args.kept.now.rows c.args.kept.now.runs c.replace.new.tree c.args.kept.now.names c.insert-2.new.self c.args.kept.now.numbers c.write_run.new.numbers c.args.run
          c.args.count (c.first_part-half.result) c.in-Ok.name c.start_of-from.result
          c.requires.kept.in_runs few.there c.requires.there (omega (arith, c.first_part-half.ensures.less)) more c.in-Ok.ensures.ok
          (c.start_of-from.ensures ∙ start_of_divided c.args.kept.now.runs c.replace.new.tree c.args.run c.args.count (c.first_part-half.result) c.requires.there more) c.write_run.ensures;
      filled = rw more (filled_divided c.args.kept.now.runs c.args.run c.args.count (c.first_part-half.result) c.requires.kept.filled c.requires.there c.first_part-half.ensures.some c.first_part-half.ensures.less);
    }

pub returns-in-Ok-clause-runs : goal.returns-in-Ok-clause-runs
returns-in-Ok-clause-runs c =
    let more : c.replace.new.tree ≡ divided c.args.kept.now.runs c.args.run c.args.count c.first_part-half.result =
    c.replace.ensures.items ∙ ap (λ item. slice_set c.insert.new.tree c.args.run item) c.new-in-Ok.ensures
    ∙ ap (λ runs. slice_set runs c.args.run (c.first_part-half.result)) (c.in_ok-insert.ensures.ok ∙ ap (insert c.args.kept.now.runs (c.args.run + 1)) c.new.ensures) in
    more

pub returns-in-Err-clause-kept : goal.returns-in-Err-clause-kept
returns-in-Err-clause-kept c =
    let few = few_divided c.args.kept.now.rows c.args.kept.now.runs c.args.kept.now.names c.args.kept.now.numbers c.args.run c.args.count c.requires.kept c.requires.there c.requires.more in
    let back : c.remove.new.tree ≡ c.args.kept.now.runs =
    c.remove.ensures.items ∙ ap (λ runs. remove runs (c.args.run + 1)) c.in_ok-insert.ensures.ok ∙ remove-insert c.args.kept.now.runs (c.args.run + 1) c.new.result (omega (arith, few.there)) in
    subst (λ runs. RepresentsRows c.args.kept.now.rows runs c.insert-2.new.self c.args.kept.now.numbers) (sym back)
    (subst (λ names. RepresentsRows c.args.kept.now.rows c.args.kept.now.runs names c.args.kept.now.numbers) (sym c.in-Err.ensures.err) c.requires.kept)
