use Rattle.std.proofs.Common.{◌≡◌, ◌+◌, ◌-◌, ◌/◌, ◌≤◌, get_or, length, arith, subst}
use Rattle.pq_fusion.proofs.Turns.{turning_ends, turning_next, turning_starts}
use Rattle.pq_fusion.proofs.chunks.holding.Goals as goal

pub halve-init : goal.halve-init
halve-init g c = record {
  some = omega arith;
  order = omega (arith, c.requires.some);
  within = omega arith;
  from = omega (arith, c.requires.first);
  to = λ less. absurd (omega (arith, less));
  turning = turning_starts (length c.args.starts.now) (length c.args.starts.now - 1) c.args.steps.now (omega arith);
}

pub halve-preserved-then-rank-starts : goal.halve-preserved-then-rank-starts
halve-preserved-then-rank-starts g c = record {
  some = c.halve.invariant.some;
  order = omega arith;
  within = omega (arith, c.halve.invariant.within, c.halve-test.true);
  from = c.halve.invariant.from;
  to = λ less. c.if-rank-starts.true;
  turning = turning_next _ (c.halve.high - c.halve.low) c.args.steps.now c.halve.steps _ c.tick.new.self (omega (arith, c.halve-test.true)) (omega arith) c.tick.ensures c.halve.invariant.turning;
}

pub halve-preserved : goal.halve-preserved
halve-preserved g c = record {
  some = omega arith;
  order = omega (arith, c.halve-test.true);
  within = c.halve.invariant.within;
  from = subst (λ n. get_or c.args.starts.now n 0 ≤ c.args.rank) (let same : c.halve.low + (c.halve.high - c.halve.low) / 2 ≡ c.halve.low + (c.halve.high - c.halve.low) / 2 + 1 - 1 = omega arith in same) c.if-rank-starts.false;
  to = c.halve.invariant.to;
  turning = turning_next _ (c.halve.high - c.halve.low) c.args.steps.now c.halve.steps _ c.tick.new.self (omega (arith, c.halve-test.true)) (omega (arith, c.halve-test.true)) c.tick.ensures c.halve.invariant.turning;
}

pub returns-clause-visits : goal.returns-clause-visits
returns-clause-visits g c = turning_ends _ (c.halve.high - c.halve.low) c.args.steps.now c.halve.steps c.halve.invariant.turning
