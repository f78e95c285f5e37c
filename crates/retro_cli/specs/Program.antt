-- What is claimed of a run of the program, by the form of its words.
use Rattle.std.specs.Prelude.{◌≡◌, ℕ, true, List, Option, None, Some, IfSome, IsSome, option_map}
use Rattle.retro_base.specs.declared.kind.Kind.{Kind}
use Rattle.retro_io.specs.declared.sink.Sink as sinks
use Rattle.retro_io.specs.declared.source.Source as sources
use Rattle.retro_io.specs.Flushes.{Sends, no_sends}
use Rattle.retro_run.specs.declared.status.Status.{Status}
use Rattle.retro_run.specs.declared.status.Status.TheVariants as statuses
use Rattle.retro_run.specs.Delivery.{Arrives, IsCutOff}
use Rattle.retro_run.specs.Ends.{EndsAtSink, ScriptStands}
use Rattle.retro_run.specs.Judging.{is_refusal, judged_output, judgement_of}
use Rattle.retro_run.specs.Output.{Answering, alone}
use Rattle.retro_run.specs.Run.{AppendsWholePrefix, EndsBetweenLines, HasAnswered, status_of}
use Rattle.retro_run.specs.Summary.{summary}
use Rattle.retro_cli.specs.declared.form.Form.{Form}
use Rattle.retro_cli.specs.declared.form.Form.TheVariants.{Run, Check, Gen}
use Rattle.retro_cli.specs.Forms.{form_of}
use Rattle.retro_cli.specs.Promise.{KeepsPromise}

-- what a send does, the source before and after, the sink before and after, and the status
module _ {S K : Type 0} (I : sources.Ghosts S) (O : sinks.Ghosts K) (sends : Sends K) (source source' : S) (sink sink' : K) (status : Status) where
  -- a script that is answered so: the whole that it gives, or what of it stands where the run ended early, and always a prefix
  pub record AnswersScript (answering : Answering) : Type 0 where
    pub prefix : AppendsWholePrefix answering (I.left source) (O.written sink) (O.written sink')
    pub stands : ScriptStands I O sends answering source source' sink sink' status

  -- `check`: the judgement of the lines that the source told, in one line, or nothing where the input was not read to its end
  pub record JudgesEvidence : Type 0 where
    pub ended : HasAnswered status → I.ended source' ≡ true
    pub output : HasAnswered status → Arrives O sends (option_map judged_output (I.left source)) sink sink'
    pub refusal : HasAnswered status → IfSome (I.left source) (λ bytes. status ≡ status_of (is_refusal (judgement_of bytes)))
    pub part : status ≡ statuses.WriteFault → IsCutOff O sends (option_map judged_output (I.left source)) sink sink'
    pub nothing : EndsBetweenLines status → sink' ≡ sink

  -- `gen KIND N START`: the summary of the generated script, and nothing is read
  pub record SumsUp (kind : Kind) (lines start : ℕ) : Type 0 where
    pub untouched : source' ≡ source
    pub output : HasAnswered status → (status ≡ statuses.Done) × Arrives O sends (Some (summary kind lines start)) sink sink'
    pub part : status ≡ statuses.WriteFault → IsCutOff O sends (Some (summary kind lines start)) sink sink'
    pub nothing : EndsBetweenLines status → (status ≡ statuses.NoMemory) × (sink' ≡ sink)

  -- by the form: of `run` the output of the script that the source told; with words of none nothing is read or written
  abbrev pub Runs : Option Form → Type 0
  Runs None = (source' ≡ source) × (sink' ≡ sink)
  Runs (Some Run) = AnswersScript alone
  Runs (Some Check) = JudgesEvidence
  Runs (Some (Gen kind lines start)) = SumsUp kind lines start

  -- all that a run promises that nobody follows
  abbrev pub RunsAlone : List (List ℕ) → Type 0
  RunsAlone words = KeepsPromise I O source source' sink sink' status (Runs (form_of words)) (IsSome (form_of words)) (form_of words ≡ None)

-- what is claimed besides at a fault of a sink that is written to and flushed alone: less than the whole was appended at a write that failed, and
-- all of it only at a flush that failed; for `check` and `gen` it is said of every sink
module _ {S K : Type 0} (I : sources.Ghosts S) (O : sinks.Ghosts K) (source source' : S) (sink sink' : K) where
  abbrev pub EndsUnsent : Option Form → Type 0
  EndsUnsent (Some Run) = EndsAtSink O no_sends alone (I.left source) (I.left source') sink sink'
  EndsUnsent form = Unit {0}
