use Rattle.std.proofs.Common.{arith}
use Rattle.retro_io.specs.LineReader.{line_of, has_ended}
use Rattle.retro_io.specs.ReaderLaws.{MovesOn-then}
use Rattle.retro_run.proofs.Judged.{is_given, judgement_is, judges_next, reads_one}
use Rattle.retro_run.proofs.Shown.{GivenAs}
use Rattle.retro_run.proofs.check.judge_lines.Goals as goal
use Rattle.retro_run.proofs.check.judge_lines.Goals.{in-Whole, in-Long}

pub returns-in-End-clause-judged : goal.returns-in-End-clause-judged
returns-in-End-clause-judged g c =
    judgement_is _ _ _ (line_of c.next.new.self) (has_ended c.next.new.self) _
    (rw c.in-End.is at c.in_ok-next.ensures.gives.lines) c.loop-judging.invariant.judges

pub loop-judging-preserved : goal.loop-judging-preserved
loop-judging-preserved g c =
    let as_given : GivenAs c.in_ok-next.field-0 c.match-branch-2.long =
    elim c.match-branch-2.branch [ in-Whole w ↦ rw w.in-Whole.is w.long-is | in-Long w ↦ rw w.in-Long.is w.long-is ] in
    let one = reads_one c.loop-judging.judging (line_of c.next.new.self) c.match-branch-2.long in
    let more = c.in_ok-next.ensures.gives.progress (is_given c.in_ok-next.field-0 c.match-branch-2.long as_given) in
    let took = rw c.line.ensures at c.in_ok-take.ensures.judged in
    record {
      moves = MovesOn-then c.args.reader.now c.loop-judging.reader c.next.new.self c.loop-judging.invariant.moves c.in_ok-next.ensures.moves;
      failed = c.in_ok-next.ensures.shows.0;
      source_faults = omega (arith, c.in_ok-next.ensures.source_faults, c.loop-judging.invariant.source_faults);
      count = rw took (omega (arith, one, more, c.loop-judging.invariant.count));
      judges = λ bytes e.
          rw took
          (judges_next c.in_ok-next.field-0 c.match-branch-2.long (line_of c.next.new.self) (has_ended c.next.new.self) bytes _ _ _
          as_given c.in_ok-next.ensures.gives.lines (c.loop-judging.invariant.judges bytes e));
    }
