use Rattle.std.proofs.Common.{take, ◌≤◌}
use Rattle.retro_io.specs.Flushes.{StaysUnflushed}
use Rattle.retro_io.specs.Sink.{Appends}
use Rattle.retro_run.specs.Audience.{audience_by, texts_of}
use Rattle.retro_run.specs.Events.{report_lines}
use Rattle.retro_run.proofs.follow.write_reports.Given as goal

abbrev pub invariant-loop-number : goal.invariant-loop-number
invariant-loop-number g l = record {
  appended : Appends (g.K.Sink.written l.fn.sink)
      (report_lines 0 (take l.number (texts_of (audience_by (λ b. (goal.Follower-dyn g (b.vtable, b.value)).report_after b.value) l.followers))))
      (g.K.Sink.written l.sink);
  unflushed : StaysUnflushed g.K.Sink g.K.SendingSink.sends l.fn.sink l.sink;
  sink_faults : g.K.Sink.faults l.fn.sink ≤ g.K.Sink.faults l.sink;
}
