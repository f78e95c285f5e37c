-- What is claimed of a run of the program.
use Rattle.std.specs.Prelude.{◌≡◌, ◌⊎◌, ℕ, Bool, true, false, ◌<◌, List, ◌++◌, get_or, length, take}
use Rattle.std.specs.Prelude.{Option, Some, None, IfSome, IsSome}
use Rattle.retro_base.specs.Limits.{most_bytes}
use Rattle.retro_io.specs.Lines.{lines}
use Rattle.retro_io.specs.Sink.{Appends, AppendsPrefixOf, AppendsProperPrefix}
use Rattle.retro_run.specs.declared.status.Status.{Status}
use Rattle.retro_run.specs.declared.status.Status.TheVariants as statuses
use Rattle.retro_run.specs.Events.{report_lines}
use Rattle.retro_run.specs.Output.{Answering, answers_by, has_refusal_by, output_by, up_to_last_feed, whole_by}

-- the input was read to its end and answered
abbrev pub HasAnswered : Status → Type 0
HasAnswered statuses.Done = Unit {0}
HasAnswered statuses.Refused = Unit {0}
HasAnswered status = ⊥

-- a read failed
abbrev pub is_read_fault : Status → Bool
is_read_fault statuses.ReadFault = true
is_read_fault status = false

-- a write or a flush failed
abbrev pub is_write_fault : Status → Bool
is_write_fault statuses.WriteFault = true
is_write_fault status = false

-- the status of a script that was answered, by whether one of its lines was refused
abbrev pub status_of : Bool → Status
status_of false = statuses.Done
status_of true = statuses.Refused

-- exactly the output of the script was appended, where the source tells the script and the sink what was written
abbrev pub AppendsOutput : Answering → Option (List ℕ) → Option (List ℕ) → Option (List ℕ) → Type 0
AppendsOutput answering None before after = Unit {0}
AppendsOutput answering (Some bytes) before after = Appends before (output_by answering bytes) after

-- exactly the whole was appended that the script gives
abbrev pub AppendsWhole : Answering → Option (List ℕ) → Option (List ℕ) → Option (List ℕ) → Type 0
AppendsWhole answering script before after = IfSome script (λ bytes. Appends before (whole_by answering bytes) after)

-- a prefix of it was appended
abbrev pub AppendsWholePrefix : Answering → Option (List ℕ) → Option (List ℕ) → Option (List ℕ) → Type 0
AppendsWholePrefix answering script before after = IfSome script (λ bytes. AppendsPrefixOf before (whole_by answering bytes) after)

-- the same of a prefix that is not all of it
abbrev pub AppendsWholePart : Answering → Option (List ℕ) → Option (List ℕ) → Option (List ℕ) → Type 0
AppendsWholePart answering script before after = IfSome script (λ bytes. AppendsProperPrefix before (whole_by answering bytes) after)

-- the whole answers to some first lines of the script were appended
pub record AppendsAnswersTo (answering : Answering) (bytes : List ℕ) (before after : Option (List ℕ)) : Type 0 where
  pub answered : List (List ℕ)
  pub unanswered : List (List ℕ)
  pub cut : lines bytes ≡ answered ++ unanswered
  pub appended : Appends before (answers_by answering answered) after

-- the same where the source tells the script
abbrev pub AppendsFirstAnswers : Answering → Option (List ℕ) → Option (List ℕ) → Option (List ℕ) → Type 0
AppendsFirstAnswers answering None before after = Unit {0}
AppendsFirstAnswers answering (Some bytes) before after = AppendsAnswersTo answering bytes before after

-- the output was appended, and the whole lines of some first reports, up to one that is still to be made
pub record AppendsReportsToOne (answering : Answering) (bytes : List ℕ) (before after : Option (List ℕ)) : Type 0 where
  pub count : ℕ
  pub asked : IsSome (get_or (answering.reports_after (lines bytes)) count None)
  pub appended : Appends before (output_by answering bytes ++ report_lines 0 (take count (answering.reports_after (lines bytes)))) after

-- the same where the source tells the script
abbrev pub AppendsSomeReports : Answering → Option (List ℕ) → Option (List ℕ) → Option (List ℕ) → Type 0
AppendsSomeReports answering script before after = IfSome script (λ bytes. AppendsReportsToOne answering bytes before after)

-- whole lines alone were appended: the answers to some first lines, or the output and some reports, of which a run has none that nobody follows
abbrev pub AppendsWholeLines : Answering → Option (List ℕ) → Option (List ℕ) → Option (List ℕ) → Type 0
AppendsWholeLines answering script before after = AppendsFirstAnswers answering script before after ⊎ AppendsSomeReports answering script before after

-- the answers to all lines of some bytes up to their last line feed, which ends a line
abbrev pub whole_answers : Answering → List ℕ → List ℕ
whole_answers answering bytes = answers_by answering (lines (up_to_last_feed bytes))

-- exactly the answers to the lines whose line feed was taken were appended
pub record AppendsAnswersToTaken (answering : Answering) (bytes rest : List ℕ) (before after : Option (List ℕ)) : Type 0 where
  pub taken : List ℕ
  pub cut : bytes ≡ taken ++ rest
  pub appended : Appends before (whole_answers answering taken) after

-- the same where the source tells the script and what is left of it
abbrev pub AppendsAnswersOfTaken : Answering → Option (List ℕ) → Option (List ℕ) → Option (List ℕ) → Option (List ℕ) → Type 0
AppendsAnswersOfTaken answering None left before after = Unit {0}
AppendsAnswersOfTaken answering (Some bytes) None before after = ⊥
AppendsAnswersOfTaken answering (Some bytes) (Some rest) before after = AppendsAnswersToTaken answering bytes rest before after

-- exactly the answers to the lines whose line feed is among so many first bytes were appended, where the source tells the script
abbrev pub AppendsAnswersOfFirst : Answering → Option (List ℕ) → ℕ → Option (List ℕ) → Option (List ℕ) → Type 0
AppendsAnswersOfFirst answering None count before after = Unit {0}
AppendsAnswersOfFirst answering (Some bytes) count before after = Appends before (whole_answers answering (take count bytes)) after

-- the run ended early, for another cause than a write that failed
abbrev pub EndsBetweenLines : Status → Type 0
EndsBetweenLines statuses.ReadFault = Unit {0}
EndsBetweenLines statuses.NoMemory = Unit {0}
EndsBetweenLines statuses.TooLong = Unit {0}
EndsBetweenLines status = ⊥

-- whether a line of the script was refused, where the source tells the script
abbrev pub MatchesRefusal : Answering → Option (List ℕ) → Bool → Type 0
MatchesRefusal answering None refused = Unit {0}
MatchesRefusal answering (Some bytes) refused = refused ≡ has_refusal_by answering bytes

-- an input may be longer than the program reads, where the source tells no bytes or so many
abbrev pub MayBeTooLong : Option (List ℕ) → Type 0
MayBeTooLong None = Unit {0}
MayBeTooLong (Some bytes) = most_bytes < length bytes

-- how a run may end that has words it knows and meets no fault: answered, short of memory, or at an input that may be too long
abbrev pub EndsWithoutFault : Option (List ℕ) → Status → Type 0
EndsWithoutFault script statuses.Done = Unit {0}
EndsWithoutFault script statuses.Refused = Unit {0}
EndsWithoutFault script statuses.NoMemory = Unit {0}
EndsWithoutFault script statuses.TooLong = MayBeTooLong script
EndsWithoutFault script status = ⊥
