-- What stands in the sink where a run of lines ends, and at each status of a run.
use Rattle.std.specs.Prelude.{◌≡◌, ◌⊎◌, ℕ, Bool, true, false, List, Option}
use Rattle.retro_base.specs.Limits.{most_bytes}
use Rattle.retro_io.specs.declared.sink.Sink as sinks
use Rattle.retro_io.specs.declared.source.Source as sources
use Rattle.retro_io.specs.Flushes.{EndsWithFailedSend, EndsWithFailedWrite, EndsWithFlush, Sends, StaysUnflushed}
use Rattle.retro_run.specs.declared.status.Status.{Status}
use Rattle.retro_run.specs.declared.status.Status.TheVariants as statuses
use Rattle.retro_run.specs.declared.stop.Stop.{Stop}
use Rattle.retro_run.specs.declared.stop.Stop.TheVariants as stops
use Rattle.retro_run.specs.OutOfMemory.{AppendsAnswersOfEarlier}
use Rattle.retro_run.specs.Output.{Answering}
use Rattle.retro_run.specs.Run.{AppendsAnswersOfFirst, AppendsAnswersOfTaken, AppendsFirstAnswers, AppendsSomeReports, AppendsWhole, AppendsWholeLines, AppendsWholePart, MatchesRefusal}

-- what a send does, how lines are answered, the script, what its source has left at the end, and the sink before and after
module _ {K : Type 0} (G : sinks.Ghosts K) (sends : Sends K) (answering : Answering) (script left : Option (List ℕ)) (before after : K) where
  -- the whole answers to some first lines were appended, and they were not flushed
  pub record EndsAfterLine : Type 0 where
    pub whole : AppendsFirstAnswers answering script (G.written before) (G.written after)
    pub unflushed : StaysUnflushed G sends before after

  -- a write failed within the whole, and that was the last call
  abbrev pub EndsAtWrite : Type 0
  EndsAtWrite = AppendsWholePart answering script (G.written before) (G.written after) × EndsWithFailedWrite G sends before after

  -- or the flush after all of it failed
  abbrev pub EndsAtSink : Type 0
  EndsAtSink = EndsAtWrite ⊎ (AppendsWhole answering script (G.written before) (G.written after) × EndsWithFlush G sends before false after)

  -- a send failed after whole lines, and that was the last call
  abbrev pub EndsAtSend : Type 0
  EndsAtSend = AppendsWholeLines answering script (G.written before) (G.written after) × EndsWithFailedSend G sends before after

  -- what stands where lines are answered no further, of a script that may have so many bytes: at a failed read the answers to all lines
  -- whose line feed was taken, and where it is too long those to all that end within what it may have
  abbrev pub LinesStand : ℕ → Stop → Type 0
  LinesStand limit stops.ReadFault = EndsAfterLine × AppendsAnswersOfTaken answering script left (G.written before) (G.written after)
  LinesStand limit stops.TooLong = EndsAfterLine × AppendsAnswersOfFirst answering script limit (G.written before) (G.written after)
  LinesStand limit stops.NoMemory = EndsAfterLine
  LinesStand limit stops.WriteFault = EndsAtWrite ⊎ EndsAtSend

-- what a send does, how lines are answered, the source before and after, and the sink before and after
module _ {S K : Type 0} (I : sources.Ghosts S) (O : sinks.Ghosts K) (sends : Sends K) (answering : Answering) (source source' : S) (sink sink' : K) where
  -- the input was read to its end, and exactly the whole was appended, and has arrived, by a flush that was the last call; and whether a line
  -- was refused is known
  pub record Answers (refused : Bool) : Type 0 where
    pub ended : I.ended source' ≡ true
    pub output : AppendsWhole answering (I.left source) (O.written sink) (O.written sink')
    pub flush : EndsWithFlush O sends sink true sink'
    pub flushed : O.flushed sink' ≡ true
    pub refusal : MatchesRefusal answering (I.left source) refused

  -- the same where this was appended, and not flushed yet
  pub record EndsUnflushed (appended : Option (List ℕ) → Option (List ℕ) → Option (List ℕ) → Type 0) (refused : Bool) : Type 0 where
    pub ended : I.ended source' ≡ true
    pub output : appended (I.left source) (O.written sink) (O.written sink')
    pub unflushed : StaysUnflushed O sends sink sink'
    pub refusal : MatchesRefusal answering (I.left source) refused

  -- memory ran out before a line was answered: the answers to those before it were appended, none where that was before the first, all
  -- where it was the close, and no report after the output
  pub record EndsAtLine : Type 0 where
    pub earlier : AppendsAnswersOfEarlier I answering source source' (I.left source) (I.left source') (O.written sink) (O.written sink')
    pub unflushed : StaysUnflushed O sends sink sink'

  -- memory ran out at a report after the output: it and the whole reports before that one were appended
  pub record EndsAtReport : Type 0 where
    pub ended : I.ended source' ≡ true
    pub whole : AppendsSomeReports answering (I.left source) (O.written sink) (O.written sink')
    pub unflushed : StaysUnflushed O sends sink sink'

  -- what stands at each status of a run that knows its words
  abbrev pub ScriptStands : Status → Type 0
  ScriptStands statuses.Done = Answers false
  ScriptStands statuses.Refused = Answers true
  ScriptStands statuses.Words = ⊥
  ScriptStands statuses.ReadFault = LinesStand O sends answering (I.left source) (I.left source') sink sink' most_bytes stops.ReadFault
  ScriptStands statuses.WriteFault = EndsAtSink O sends answering (I.left source) (I.left source') sink sink' ⊎ EndsAtSend O sends answering (I.left source) (I.left source') sink sink'
  ScriptStands statuses.NoMemory = EndsAtLine ⊎ EndsAtReport
  ScriptStands statuses.TooLong = LinesStand O sends answering (I.left source) (I.left source') sink sink' most_bytes stops.TooLong
