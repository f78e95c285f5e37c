use Rattle.std.proofs.Common.{◌≡◌, ◌≤◌, ◌<◌, ◌-◌, false, length, take}
use Rattle.retro_io.specs.Sink.{Appends, HandsAll}
use Rattle.retro_io.proofs.sink.put_until_fault.Given as goal

abbrev pub invariant-loop-appended : goal.invariant-loop-appended
invariant-loop-appended g l = record {
  within : l.appended ≤ length l.bytes;
  appends : Appends (g.K.Sink.written l.initial.sink) (take l.appended l.bytes) (g.K.Sink.written l.sink);
  handed : HandsAll g.K.Sink.writes l.bytes l.initial.sink l.appended l.sink;
  untouched : l.appended ≡ 0 → l.sink ≡ l.initial.sink;
  flushed : 0 < l.appended → g.K.Sink.flushed l.sink ≡ false;
  faults : g.K.Sink.faults l.initial.sink ≤ g.K.Sink.faults l.sink;
}

abbrev pub decreases-loop-appended : goal.decreases-loop-appended
decreases-loop-appended g l = length l.bytes - l.appended
