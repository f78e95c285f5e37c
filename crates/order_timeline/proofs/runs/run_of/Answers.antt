use Rattle.std.proofs.Common.{◌≡◌, ◌≤◌, ◌-◌, nat_lt, ap, ◌∙◌, length, rules}
use Rattle.std.specs.List.{slice_range}
use Rattle.monoid_laws.specs.Measure.{measure_of}
use Rattle.order_timeline.specs.Totals.{no_total, one_total, joined_total}
use Rattle.order_timeline.specs.Runs.{IsInRun}
use Rattle.order_timeline.proofs.Totals.{ends_after, ends-rise, run-found, run-there, total-range}
use Rattle.order_timeline.proofs.runs.run_of.Goals as goal

found : (c : goal.In-Some) → (1 ≤ c.in-Some.count) × IsInRun c.args.runs.now (c.in-Some.count - 1) c.args.place
found c =
    let runs = c.args.runs.now in
    let place = c.args.place in
    run-found place runs c.first_place.result c.in-Some.count
    (c.first_place.ensures.first (ends_after place runs)
    (λ index answer above within call.
    let reported : answer ≡ nat_lt place (measure_of no_total joined_total one_total (slice_range runs 0 index)).rows = search rules in
    reported ∙ ap (nat_lt place) (total-range runs index))
    (ends-rise place runs 0 (length runs))) c.in-Some.is

pub overflow_sub-result : goal.overflow_sub-result
overflow_sub-result c = (found c).0

pub returns-in-Some : goal.returns-in-Some
returns-in-Some c = (found c).1

pub returns-in-None : goal.returns-in-None
returns-in-None c =
    let runs = c.args.runs.now in
    let place = c.args.place in
    absurd (run-there place runs c.first_place.result c.requires
    (c.first_place.ensures.first (ends_after place runs)
    (λ index answer above within call.
    let reported : answer ≡ nat_lt place (measure_of no_total joined_total one_total (slice_range runs 0 index)).rows = search rules in
    reported ∙ ap (nat_lt place) (total-range runs index))
    (ends-rise place runs 0 (length runs))) c.in-None.is)
