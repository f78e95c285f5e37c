-- What was counted, and what the lines left come to, is what all lines come to.
use Rattle.std.proofs.Common.{◌≡◌, false, length}
use Rattle.retro_run.proofs.Summing.{CountsFaults}
use Rattle.retro_run.proofs.generated.count_refusals.Given as goal

abbrev pub invariant-loop-answer : goal.invariant-loop-answer
invariant-loop-answer g l = record {
  unspent : (g.B.AnyBench.state l.bench).spent ≡ false;
  counts : CountsFaults (g.B.AnyBench.state l.fn.bench).bench (g.B.AnyBench.state l.bench).bench l.fn.generator l.generator l.refused;
}

abbrev pub decreases-loop-answer : goal.decreases-loop-answer
decreases-loop-answer g l = length l.generator
