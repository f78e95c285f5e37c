use Rattle.std.proofs.Common.{ap, arith}
use Rattle.evidence_check.proofs.Walks.{there}
use Rattle.evidence_check.proofs.search.holding.Goals as goal

pub returns-then-place-before : goal.returns-then-place-before
returns-then-place-before g c = record {
  part = c.index-parts-index.result;
  there = there g.P.Part.rows c.args.parts.now c.loop-index.index c.index-parts-index.result c.loop-index-test.true c.index-parts-index.is;
  before = c.loop-index.invariant.0;
  from = c.loop-index.invariant.1;
  to = omega (arith, ap (λ s. s.rows) c.sums-rows.ensures);
}
