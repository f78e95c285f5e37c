-- The judgement of evidence, of which some lines were read.
use Rattle.std.specs.Prelude.{ℕ, ◌+◌, ◌≤◌, Bool, true, false, List, [], ◌∷◌, ◌++◌, Option, None, Some, Result, Ok, Err}
use Rattle.retro_io.specs.Lines.{line_feed, lines}
use Rattle.evidence_check.specs.declared.error.CheckError.{CheckError}
use Rattle.retro_run.specs.declared.judging.Refusal.{Refusal}
use Rattle.evidence_check.specs.Judgement.{Judge, Judgement, accepted, judged_line, judgement, judgement_from, judgement_text, refused}

-- all evidence of so many lines was accepted, and the judge has it; or this line was the first that was refused
pub data Verdict : Type 0 where
  so_far : ℕ → Judge → Verdict
  against : ℕ → CheckError → Verdict

-- the verdict of a judge after so many lines, of which this one was refused, if any was
abbrev pub verdict : Judge → ℕ → Option Refusal → Verdict
verdict judge lines None = so_far lines judge
verdict judge lines (Some refusal) = against refusal.line refusal.cause

-- a line that was refused is one of those read
abbrev pub RefusalIsRead : ℕ → Option Refusal → Type 0
RefusalIsRead lines None = Unit {0}
RefusalIsRead lines (Some refusal) = refusal.line ≤ lines

-- how many lines were read, up to one that was refused
abbrev pub lines_read : Verdict → ℕ
lines_read (so_far count judge) = count
lines_read (against line cause) = line

-- the judgement of what was read and of these lines after it
abbrev pub judgement_after : Verdict → List (List ℕ) → Judgement
judgement_after (so_far count judge) more = judgement_from count judge more
judgement_after (against line cause) more = refused line cause

-- the verdict on a line
abbrev pub verdict_on : ℕ → Result Judge CheckError → Verdict
verdict_on line (Ok judge) = so_far line judge
verdict_on line (Err cause) = against line cause

-- the verdict after one more line, of which these bytes are shown
abbrev pub with_line : Verdict → List ℕ → Bool → Verdict
with_line (so_far count judge) bytes long = verdict_on (count + 1) (judged_line judge bytes long)
with_line (against line cause) bytes long = against line cause

-- a judgement refuses a line
abbrev pub is_refusal : Judgement → Bool
is_refusal (accepted count) = false
is_refusal (refused line cause) = true

-- the output of `check`: the judgement of the lines of its input, in one line
abbrev pub judgement_line : Judgement → List ℕ
judgement_line of = judgement_text of ++ line_feed ∷ []

abbrev pub judgement_of : List ℕ → Judgement
judgement_of bytes = judgement (lines bytes)

abbrev pub judged_output : List ℕ → List ℕ
judged_output bytes = judgement_line (judgement_of bytes)
