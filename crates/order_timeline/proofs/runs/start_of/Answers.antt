use Rattle.std.proofs.Common.{◌≡◌, ap, ◌∙◌, arith}
use Rattle.order_timeline.specs.Runs.{start_of}
use Rattle.order_timeline.proofs.Totals.{total-range, start_within}
use Rattle.order_timeline.proofs.runs.start_of.Goals as goal

pub returns : goal.returns
returns c = c.rows.ensures ∙ ap (λ total. total.rows) c.measure.ensures.value ∙ total-range c.args.runs.now c.args.run

pub overflow_cast-result : goal.overflow_cast-result
overflow_cast-result c =
    let seen : c.rows.result ≡ start_of c.args.runs.now c.args.run = c.rows.ensures ∙ ap (λ total. total.rows) c.measure.ensures.value ∙ total-range c.args.runs.now c.args.run in
    omega (arith, seen, start_within c.args.runs.now c.args.run, c.requires.few)
