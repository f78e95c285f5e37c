use Rattle.std.proofs.Common.{◌≡◌, false, refl, arith}
use Rattle.script_gen.specs.Script.{generated}
use Rattle.reactions.specs.Answers.{bench_after}
use Rattle.reactions.specs.Bench.{BenchState, empty_bench}
use Rattle.retro_run.specs.Summary.{refusals}
use Rattle.retro_run.proofs.Summing.{length-generated, refusals-le}
use Rattle.retro_run.proofs.generated.sum_up.Goals as goal

pub count_refusals-requires-clause-few : goal.count_refusals-requires-clause-few
count_refusals-requires-clause-few g c =
    rw c.new-generator.ensures (omega (arith, length-generated c.args.kind c.args.lines c.args.start, c.requires))

pub returns : goal.returns
returns g c =
    let script = generated c.args.kind c.args.lines c.args.start in
    let size = length-generated c.args.kind c.args.lines c.args.start in
    let refused : c.in_ok-refused.refused ≡ refusals empty_bench script = rw (c.empty-bench.ensures, c.new-generator.ensures) at c.in_ok-refused.ensures.refused in
    let bench : ◌≡◌ {A = BenchState} (g.B.AnyBench.state c.count_refusals.new.bench) (record { bench = bench_after empty_bench script; spent = false }) =
    rw (c.empty-bench.ensures, c.new-generator.ensures) at c.in_ok-refused.ensures.bench in
    (rw refused (omega (arith, refusals-le empty_bench script, size)), rw (c.count_rows-rows.ensures, bench, refused, size) refl)
