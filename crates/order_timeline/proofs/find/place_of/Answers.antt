use Rattle.std.proofs.Common.{◌≡◌, Some, None, sym, subst, ◌∙◌, arith}
use Rattle.order_timeline.specs.Numbers.{name_of}
use Rattle.order_timeline.specs.Runs.{name_for_each, IsNotBefore}
use Rattle.order_timeline.proofs.InRuns.{all_rows}
use Rattle.order_timeline.proofs.Lookups.{no_place, no_run, not_before_run}
use Rattle.order_timeline.proofs.find.place_of.Goals as goal

pub returns-in_err-name : goal.returns-in_err-name
returns-in_err-name c =
    let named = c.requires.kept.in_runs.named in
    let none : name_of c.args.number c.args.kept.now.rows (name_for_each c.args.kept.now.runs c.args.kept.now.names) ≡ None = sym (named.filed c.args.number) ∙ sym c.get.ensures ∙ c.in_err-name.was in
    c.from_residual.ensures ∙ sym (no_place c.args.number c.args.kept.now.rows (name_for_each c.args.kept.now.runs c.args.kept.now.names) named.as_many none)

pub start_of-start-requires-clause-few : goal.start_of-start-requires-clause-few
start_of-start-requires-clause-few c = omega (arith, all_rows c.args.kept.now.rows c.args.kept.now.runs c.args.kept.now.names c.args.kept.now.numbers c.requires.kept.in_runs, c.requires.kept.ordered.few)

pub returns-in_err-run : goal.returns-in_err-run
returns-in_err-run c =
    let rows = c.args.kept.now.rows in
    let runs = c.args.kept.now.runs in
    let names = c.args.kept.now.names in
    let name = c.in_ok-name.name in
    let some : name_of c.args.number rows (name_for_each runs names) ≡ Some name = sym (c.requires.kept.in_runs.named.filed c.args.number) ∙ sym c.get.ensures ∙ c.in_ok-name.was in
    c.from_residual-in_err-run.ensures ∙ sym (no_run c.args.number name rows runs names c.requires.kept.in_runs.each
    (all_rows rows runs names c.args.kept.now.numbers c.requires.kept.in_runs) some (sym c.place_of.ensures.place ∙ c.in_err-run.was))

pub place_from-requires : goal.place_from-requires
place_from-requires c =
    let rows = c.args.kept.now.rows in
    let runs = c.args.kept.now.runs in
    let names = c.args.kept.now.names in
    let name = c.in_ok-name.name in
    let some : name_of c.args.number rows (name_for_each runs names) ≡ Some name = sym (c.requires.kept.in_runs.named.filed c.args.number) ∙ sym c.get.ensures ∙ c.in_ok-name.was in
    subst (λ start. IsNotBefore rows start c.args.number) (sym c.start_of-start.ensures) (not_before_run c.args.number name c.in_ok-run.run' rows runs names some (sym c.place_of.ensures.place ∙ c.in_ok-run.was))
