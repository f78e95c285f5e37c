-- What a run of the program promises at every status.
use Rattle.std.specs.Prelude.{◌≡◌, ◌↔◌, ◌<◌, ◌-◌}
use Rattle.retro_base.specs.Limits.{most_bytes}
use Rattle.retro_io.specs.declared.sink.Sink as sinks
use Rattle.retro_io.specs.declared.source.Source as sources
use Rattle.retro_io.specs.Faults.{CountsFaults, HasRisen, last_count}
use Rattle.retro_run.specs.declared.status.Status.{Status}
use Rattle.retro_run.specs.declared.status.Status.TheVariants as statuses
use Rattle.retro_run.specs.Run.{EndsWithoutFault, is_read_fault, is_write_fault}

-- the source before and after, the sink before and after, and the status
module _ {S K : Type 0} (I : sources.Ghosts S) (O : sinks.Ghosts K) (source source' : S) (sink sink' : K) (status : Status) where
  -- what stands then, and that the words have a form, or none
  pub record KeepsPromise (stands known unknown : Type 0) : Type 0 where
    -- what stands at the status, by the form of the words: the output of the script, the judgement or the summary
    pub form : stands
    -- the status is that of words without a form exactly where these have none
    pub words : (status ≡ statuses.Words) ↔ unknown
    -- it is that of an input that is too long exactly where more bytes were taken than the program reads
    pub too_long : I.taken source' < last_count → ((status ≡ statuses.TooLong) ↔ (most_bytes < I.taken source' - I.taken source))
    -- completeness: without a fault there is no other end than an output, out of memory, or an input that is too long
    pub complete : known → (HasRisen (I.faults source) (I.faults source') → ⊥) → (HasRisen (O.faults sink) (O.faults sink') → ⊥)
        → EndsWithoutFault (I.left source) status
    -- the source's count of faults rises at a failed read, and never falls
    pub source_faults : CountsFaults (is_read_fault status) (I.faults source) (I.faults source')
    -- the sink's rises at a failed write or flush, and never falls
    pub sink_faults : CountsFaults (is_write_fault status) (O.faults sink) (O.faults sink')
