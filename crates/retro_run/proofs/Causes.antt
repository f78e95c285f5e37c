-- The causes of how a run ended that read by a reader of its own.
use Rattle.std.proofs.Common.{◌≡◌, ◌↔◌, ℕ, Bool, ◌+◌, ◌-◌, List, Option, Some, None, Result, arith}
use Rattle.std.specs.Prelude.{IsErrOf}
use Rattle.retro_base.specs.Limits.{most_bytes}
use Rattle.retro_io.specs.declared.line_reader.LineReader.{LineReader}
use Rattle.retro_io.specs.declared.sink.Sink as sinks
use Rattle.retro_io.specs.declared.source.Source as sources
use Rattle.retro_io.specs.Faults.{CountsFaults}
use Rattle.retro_io.specs.LineReader.{IsUnread, MovesOn, limit_of, source_of, taken}
use Rattle.retro_io.specs.Source.{GivesCount}
use Rattle.retro_run.specs.declared.stop.Stop.{Stop}
use Rattle.retro_run.specs.declared.stop.Stop.TheVariants as stops
use Rattle.retro_run.specs.Cause.{HasCause}
use Rattle.retro_run.specs.Run.{MayBeTooLong}
use Rattle.retro_run.specs.Stop.{stops_at_read, stops_at_write}

-- so many bytes more than the program reads
too_many : (left after : Option (List ℕ)) (count : ℕ) → GivesCount left count after → count ≡ most_bytes + 1 → MayBeTooLong left
too_many None after count gives more = tt
too_many (Some bytes) after count gives more = omega (arith, gives.0, more)

module _ {S K : Type 0} (I : sources.Ghosts S) (O : sinks.Ghosts K) (before after : LineReader S I) (sink sink' : K) (outcome : Result Bool Stop) where
  pub reader_cause : IsUnread before → limit_of before ≡ most_bytes → MovesOn before after → (IsErrOf outcome stops.TooLong ↔ (taken after ≡ limit_of after + 1))
      → CountsFaults (stops_at_read outcome) (I.faults (source_of before)) (I.faults (source_of after))
      → CountsFaults (stops_at_write outcome) (O.faults sink) (O.faults sink')
      → HasCause I O (source_of before) (source_of after) sink sink' outcome
  reader_cause unread limit moves too_long source_faults sink_faults = record {
    source_faults = source_faults;
    sink_faults = sink_faults;
    too_long = λ below.
        (λ e. omega (arith, too_long.0 e, below, moves.count, moves.limit, limit, unread.taken), λ more. too_long.1 (omega (arith, more, below, moves.count, moves.limit, moves.within, limit, unread.taken)));
    longer = λ e. too_many _ _ (taken after - taken before) moves.left (omega (arith, too_long.0 e, moves.limit, limit, unread.taken));
  }
