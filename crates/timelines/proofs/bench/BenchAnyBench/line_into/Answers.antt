use Rattle.std.proofs.Common.{rules}
use Rattle.reactions.specs.RefusalLaws.{kept_after}
use Rattle.timelines.proofs.bench.BenchAnyBench.line_into.Goals as goal
use Rattle.timelines.proofs.bench.BenchAnyBench.line_into.Goals.{then-is_none, else-is_none+then-not-long+then-is_end, else-is_none+else-not-long}

pub returns-clause-reacts : goal.returns-clause-reacts
returns-clause-reacts g c = elim c.if-is_none.branch [
  | then-is_none w ↦ search rules
  | else-is_none+then-not-long+then-is_end w ↦ search rules
  | else-is_none+else-not-long w ↦ search rules
]

pub returns-clause-keeps : goal.returns-clause-keeps
returns-clause-keeps g c = kept_after c.if-is_none.refused c.args.self.now.bench _ _ c.args.line.now c.args.long (returns-clause-reacts g c)
