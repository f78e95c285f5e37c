-- The judgement of the lines read and of those of what is left is that of all.
use Rattle.std.proofs.Common.{◌≡◌, ℕ, ◌+◌, ◌-◌, ◌≤◌, List, Some, false}
use Rattle.retro_io.specs.LineReader.{MovesOn, given, has_failed, limit_of, rest_of, source_of}
use Rattle.retro_run.specs.Judging.{lines_read}
use Rattle.retro_run.proofs.Judged.{JudgesOn}
use Rattle.retro_run.proofs.check.judge_lines.Given as goal

abbrev pub invariant-loop-judging : goal.invariant-loop-judging
invariant-loop-judging g l = record {
  moves : MovesOn l.fn.reader l.reader;
  failed : has_failed l.reader ≡ false;
  source_faults : g.S.Source.faults (source_of l.fn.reader) ≤ g.S.Source.faults (source_of l.reader);
  count : lines_read l.judging ≤ given l.reader;
  judges : (bytes : List ℕ) → rest_of l.fn.reader ≡ Some bytes → JudgesOn bytes l.judging (rest_of l.reader);
}

abbrev pub decreases-loop-judging : goal.decreases-loop-judging
decreases-loop-judging g l = limit_of l.reader + 1 - given l.reader
