-- How a run ended has its cause in the streams, unless it is out of memory.
use Rattle.std.specs.Prelude.{◌≡◌, ◌↔◌, ◌<◌, ◌-◌, Bool, Result, Err}
use Rattle.retro_base.specs.Limits.{most_bytes}
use Rattle.retro_io.specs.declared.sink.Sink as sinks
use Rattle.retro_io.specs.declared.source.Source as sources
use Rattle.retro_io.specs.Faults.{CountsFaults, last_count}
use Rattle.retro_run.specs.declared.stop.Stop.{Stop}
use Rattle.retro_run.specs.declared.stop.Stop.TheVariants as stops
use Rattle.retro_run.specs.Run.{MayBeTooLong}
use Rattle.retro_run.specs.Stop.{stops_at_read, stops_at_write}

-- the source before and after, and the sink before and after: a count of faults rose where the run ended at a fault, and it ended at an input
-- that is too long exactly where more bytes were taken than the program reads, of which the source had as many
pub record HasCause {S K : Type 0} (I : sources.Ghosts S) (O : sinks.Ghosts K) (source source' : S) (sink sink' : K) (outcome : Result Bool Stop) : Type 0 where
  pub source_faults : CountsFaults (stops_at_read outcome) (I.faults source) (I.faults source')
  pub sink_faults : CountsFaults (stops_at_write outcome) (O.faults sink) (O.faults sink')
  pub too_long : I.taken source' < last_count → ((outcome ≡ Err stops.TooLong) ↔ (most_bytes < I.taken source' - I.taken source))
  pub longer : outcome ≡ Err stops.TooLong → MayBeTooLong (I.left source)
