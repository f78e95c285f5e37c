use Rattle.std.proofs.Common.{ap, false}
use Rattle.reactions.specs.Bench.{BenchState}
use Rattle.reactions.specs.RefusalLaws.{kept_after_end}
use Rattle.timelines.proofs.bench.BenchAnyBench.end_into.Goals as goal

pub returns-clause-keeps : goal.returns-clause-keeps
returns-clause-keeps g c =
    rw (ap (λ (state : BenchState). state.bench) c.self.view_is)
    (kept_after_end c.close-refused.result c.args.self.now.bench c.close-refused.new.self.bench c.close-refused.new.answer false c.close-refused.ensures.ok)
