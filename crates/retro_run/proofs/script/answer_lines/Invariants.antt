-- The lines given so far are the first ones of the script, and were answered.
use Rattle.std.proofs.Common.{◌≡◌, ◌+◌, ◌-◌, ◌≤◌, false}
use Rattle.retro_io.specs.Flushes.{StaysUnflushed}
use Rattle.retro_io.specs.LineReader.{MovesOn, given, held, limit_of, has_ended, has_failed, source_of, taken}
use Rattle.retro_run.specs.Audience.{audience_by}
use Rattle.retro_run.proofs.Ends.{WentOn}
use Rattle.retro_run.proofs.script.answer_lines.Given as goal

abbrev pub invariant-loop-reader : goal.invariant-loop-reader
invariant-loop-reader g l = record {
  moves : MovesOn l.fn.reader.reader l.reader.reader;
  unspent : (g.B.AnyBench.state l.bench).spent ≡ false;
  failed : has_failed l.reader.reader ≡ false;
  source_faults : g.S.Source.faults (source_of l.fn.reader.reader) ≤ g.S.Source.faults (source_of l.reader.reader);
  sink_faults : g.K.Sink.faults l.fn.sink ≤ g.K.Sink.faults l.sink;
  unflushed : StaysUnflushed g.K.Sink g.K.SendingSink.sends l.fn.sink l.sink;
  went_on : WentOn g.S.Source g.K.Sink (audience_by (λ b. (goal.Follower-dyn g (b.vtable, b.value)).report_after b.value) l.fn.followers)
      (source_of l.fn.reader.reader) (source_of l.reader.reader) l.fn.sink l.sink (held l.reader.reader) (has_ended l.reader.reader) (taken l.reader.reader)
      (g.B.AnyBench.state l.bench).bench (audience_by (λ b. (goal.Follower-dyn g (b.vtable, b.value)).report_after b.value) l.followers) l.refused;
}

abbrev pub decreases-loop-reader : goal.decreases-loop-reader
decreases-loop-reader g l = limit_of l.reader.reader + 1 - given l.reader.reader
