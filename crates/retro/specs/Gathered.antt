-- What is claimed of a run over an outbox before a sink, with the followers that the program hands in.
use Rattle.std.specs.Prelude.{◌≡◌, [], false, ℕ, List}
use Rattle.retro_io.specs.declared.outbox.Outbox.{Outbox}
use Rattle.retro_io.specs.declared.sink.Sink as sinks
use Rattle.retro_io.specs.declared.source.Source as sources
use Rattle.retro_io.specs.Outbox.{SendsOn, sink_of, waiting_of}
use Rattle.followers.specs.Followers.{Reporting}
use Rattle.retro_run.specs.declared.status.Status.{Status}
use Rattle.retro_run.specs.Audience.{Audience, audience_of}
use Rattle.retro_run.specs.Run.{is_write_fault}
use Rattle.retro_cli.specs.FollowedProgram.{RunsFollowed}
use Rattle.retro.specs.Followers.{followers_of}

-- the followers, the source before and after, the sink before, the outbox after, the status, and the words
pub record RunsGathered {S K : Type 0} (I : sources.Ghosts S) (O : sinks.Ghosts K) (G : sinks.Ghosts (Outbox K)) (followers : List Reporting)
    (source source' : S) (sink : K) (outbox : Outbox K) (status : Status) (words : List (List ℕ)) : Type 0 where
  -- it runs over an outbox before this sink, in which nothing waits, and which has not failed
  pub first : Outbox K
  pub sink_is : sink_of first ≡ sink
  pub empty : waiting_of first ≡ []
  pub unflushed : G.flushed first ≡ false
  pub no_faults : G.faults first ≡ 0
  -- these followers were handed in
  pub audience : Audience
  pub handed_in : audience ≡ audience_of followers
  -- and all was kept that a followed run promises
  pub runs : RunsFollowed I G (SendsOn O) audience source source' first outbox status words
  -- nothing waits in the outbox in the end, and all that was written is in the sink, unless that failed
  pub sent : is_write_fault status ≡ false → waiting_of outbox ≡ []
  pub all : is_write_fault status ≡ false → O.written (sink_of outbox) ≡ G.written outbox

-- some run of these words over some streams ended with this status
abbrev pub EndsARun : {S K : Type 0} → sources.Ghosts S → sinks.Ghosts K → sinks.Ghosts (Outbox K) → Status → List (List ℕ) → Type 0
EndsARun {S} {K} I O G status words =
    (source : S) × (source' : S) × (sink : K) × (outbox : Outbox K) × RunsGathered I O G (followers_of words) source source' sink outbox status words
