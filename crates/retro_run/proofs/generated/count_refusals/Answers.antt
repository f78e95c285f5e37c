use Rattle.std.proofs.Common.{◌≡◌, true, false}
use Rattle.script_gen.specs.Coming.{GivesNext}
use Rattle.reactions.specs.Reaction.{reacts_to}
use Rattle.retro_run.proofs.Summing.{counts_all, counts_next, state_is}
use Rattle.retro_run.proofs.generated.count_refusals.Goals as goal

pub loop-answer-preserved : goal.loop-answer-preserved
loop-answer-preserved g c =
    let gives : GivesNext c.loop-answer.generator c.next_line.new.self c.next_line.new.out true = rw c.if-branch.true at c.in_ok-next_line.ensures.ok in
    let reacted : reacts_to (g.B.AnyBench.state c.loop-answer.bench).bench c.next_line.new.out false
    ≡ record { bench = (g.B.AnyBench.state c.line_into.new.self).bench; answer = c.line_into.new.answer; refused = c.in_ok-is_refused.is_refused } =
    rw c.as_bytes.ensures at c.in_ok-is_refused.ensures.reacts in
    record {
      unspent = c.in_ok-is_refused.ensures.spent;
      counts = rw c.one_if-refused.ensures.value (counts_next (g.B.AnyBench.state c.args.bench.now).bench (g.B.AnyBench.state c.loop-answer.bench).bench (g.B.AnyBench.state c.line_into.new.self).bench c.args.generator.now
          c.loop-answer.generator c.next_line.new.self c.loop-answer.refused c.next_line.new.out c.line_into.new.answer c.in_ok-is_refused.is_refused gives
          c.in_ok-next_line.ensures.short reacted c.loop-answer.invariant.counts);
    }

pub returns-clause-bench : goal.returns-clause-bench
returns-clause-bench g c =
    let gives : GivesNext c.loop-answer.generator c.next_line.new.self c.next_line.new.out false = rw c.if-branch.false at c.in_ok-next_line.ensures.ok in
    state_is (g.B.AnyBench.state c.loop-answer.bench) _ c.loop-answer.invariant.unspent
    (counts_all (g.B.AnyBench.state c.args.bench.now).bench (g.B.AnyBench.state c.loop-answer.bench).bench c.args.generator.now c.loop-answer.generator c.next_line.new.self c.loop-answer.refused
    c.next_line.new.out gives c.loop-answer.invariant.counts).0

pub returns-clause-refused : goal.returns-clause-refused
returns-clause-refused g c =
    let gives : GivesNext c.loop-answer.generator c.next_line.new.self c.next_line.new.out false = rw c.if-branch.false at c.in_ok-next_line.ensures.ok in
    (counts_all (g.B.AnyBench.state c.args.bench.now).bench (g.B.AnyBench.state c.loop-answer.bench).bench c.args.generator.now c.loop-answer.generator c.next_line.new.self c.loop-answer.refused
    c.next_line.new.out gives c.loop-answer.invariant.counts).1
