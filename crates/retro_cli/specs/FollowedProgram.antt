-- What is claimed of a run of the program with followers.
use Rattle.std.specs.Prelude.{◌≡◌, ℕ, Bool, true, false, ◌⊎◌, List, Option, None, IsSome}
use Rattle.retro_io.specs.declared.sink.Sink as sinks
use Rattle.retro_io.specs.declared.source.Source as sources
use Rattle.retro_io.specs.Flushes.{Sends, no_sends}
use Rattle.retro_run.specs.declared.status.Status.{Status}
use Rattle.retro_run.specs.Audience.{Audience, followed}
use Rattle.retro_run.specs.Ends.{EndsAtSink}
use Rattle.retro_cli.specs.declared.form.Form.{Form}
use Rattle.retro_cli.specs.Forms.{form_of, is_follow}
use Rattle.retro_cli.specs.Program.{AnswersScript, EndsUnsent, Runs}
use Rattle.retro_cli.specs.Promise.{KeepsPromise}

-- the most followers of a run
abbrev pub most_followers : ℕ
most_followers = 1024

-- the words are `follow` or `follow NAME`, or have a form of a run
abbrev pub HasForm : List (List ℕ) → Type 0
HasForm words = (is_follow words ≡ true) ⊎ IsSome (form_of words)

-- they have none
abbrev pub HasNoForm : List (List ℕ) → Type 0
HasNoForm words = (is_follow words ≡ false) × (form_of words ≡ None)

-- what a send does, who follows at the start, the source before and after, the sink before and after, and the status
module _ {S K : Type 0} (I : sources.Ghosts S) (O : sinks.Ghosts K) (sends : Sends K) (audience : Audience) (source source' : S) (sink sink' : K) (status : Status) where
  -- by the words: with `follow` and `follow NAME` the output of the script that the source told, and the reports after it; with those that
  -- are not of a followed run, what is claimed of a run
  abbrev pub RunsBy : Bool → Option Form → Type 0
  RunsBy true form = AnswersScript I O sends source source' sink sink' status (followed audience)
  RunsBy false form = Runs I O sends source source' sink sink' status form

  -- all that it promises
  abbrev pub RunsFollowed : List (List ℕ) → Type 0
  RunsFollowed words = KeepsPromise I O source source' sink sink' status (RunsBy (is_follow words) (form_of words)) (HasForm words) (HasNoForm words)

-- what is claimed besides at a fault of a sink that is written to and flushed alone
module _ {S K : Type 0} (I : sources.Ghosts S) (O : sinks.Ghosts K) (source source' : S) (sink sink' : K) where
  abbrev pub EndsUnsentBy : Audience → Bool → Option Form → Type 0
  EndsUnsentBy audience true form = EndsAtSink O no_sends (followed audience) (I.left source) (I.left source') sink sink'
  EndsUnsentBy audience false form = EndsUnsent I O source source' sink sink' form
