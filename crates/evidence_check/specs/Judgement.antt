-- What is made of lines of evidence, one after another.
use Rattle.std.specs.Prelude.{ℕ, ◌+◌, Bool, not, ◌&&◌, nat_le, nat_eq, is_none, List, [], ◌∷◌, ◌++◌, length, codes, decimal, if◌then◌else◌}
use Rattle.std.specs.Prelude.{Option, Some, None, unwrap_or, Result, Ok, Err}
use Rattle.std.specs.List.{starts_with}
use Rattle.std.specs.Str.{bytes_eq}
use Rattle.retro_base.specs.declared.row.Row.{Row}
use Rattle.retro_base.specs.Limits.{most_timelines}
use Rattle.retro_base.specs.LineLength.{is_long}
use Rattle.evidence.specs.declared.evidence.Evidence.{Evidence}
use Rattle.evidence.specs.Reading.{evidence_of}
use Rattle.evidence_check.specs.declared.error.CheckError.{CheckError}
use Rattle.evidence_check.specs.declared.error.CheckError.TheVariants as causes
use Rattle.evidence_check.specs.Truth.{cause_of, rows_after}

-- the rows that evidence has reported of the timeline of a name
pub record Reported : Type 0 where
  pub name : List ℕ
  pub rows : List Row

-- all that was reported so far, and in how many lines
pub record Judge : Type 0 where
  pub reported : List Reported
  pub accepted : ℕ

-- before the first line
abbrev pub nothing_reported : Judge
nothing_reported = record { reported = []; accepted = 0 }

abbrev pub is_named : List ℕ → Reported → Bool
is_named name reported = bytes_eq reported.name name

-- the rows of a name, where something was reported of it
abbrev pub rows_of : List ℕ → List Reported → Option (List Row)
rows_of name [] = None
rows_of name (first ∷ others) = if is_named name first then Some first.rows else rows_of name others

-- the same with these rows under the name; a new name comes last
abbrev pub with_rows : List ℕ → List Row → List Reported → List Reported
with_rows name rows [] = record { name = name; rows = rows } ∷ []
with_rows name rows (first ∷ others) =
    if is_named name first then record first { rows = rows } ∷ others
    else first ∷ with_rows name rows others

-- the name is a new one, and there are as many as there may be
abbrev pub is_one_too_many : Option (List Row) → List Reported → Bool
is_one_too_many rows reported = is_none rows && nat_le most_timelines (length reported)

-- the first cause for which evidence is refused
abbrev pub first_cause : List Reported → Evidence → Option CheckError
first_cause reported e =
    if is_one_too_many (rows_of e.name reported) reported then Some causes.Timelines
    else cause_of (unwrap_or (rows_of e.name reported) []) e

-- what is reported after evidence that is accepted
abbrev pub reported_after : List Reported → Evidence → List Reported
reported_after reported e = with_rows e.name (rows_after (unwrap_or (rows_of e.name reported) []) e) reported

-- the judge after evidence, or the cause for which it is refused
abbrev pub decided : Option CheckError → Judge → Evidence → Result Judge CheckError
decided (Some cause) judge e = Err cause
decided None judge e = Ok (record { reported = reported_after judge.reported e; accepted = judge.accepted + 1 })

abbrev pub judged_evidence : Judge → Option Evidence → Result Judge CheckError
judged_evidence judge None = Err causes.Syntax
judged_evidence judge (Some e) = decided (first_cause judge.reported e) judge e

-- a line is one of evidence by its first bytes
abbrev pub is_evidence_line : List ℕ → Bool
is_evidence_line bytes = starts_with nat_eq bytes (codes "edit ")

-- the judge after a line: by its bytes, or where it is long by the first of them; other lines are passed over
unfoldable pub judged_line : Judge → List ℕ → Bool → Result Judge CheckError
judged_line judge bytes long =
    if not (is_evidence_line bytes) then Ok judge
    else (if long then Err causes.Syntax
    else judged_evidence judge (evidence_of bytes))

-- the judge after a whole line of the input
abbrev pub judged : Judge → List ℕ → Result Judge CheckError
judged judge line = judged_line judge line (is_long line)

-- all evidence was accepted, in so many lines; or a line, counted from 1, was the first that was refused
pub data Judgement : Type 0 where
  accepted : ℕ → Judgement
  refused : ℕ → CheckError → Judgement

-- the judgement where this was made of a line, and the judgement of the lines after it
abbrev pub by_verdict : ℕ → (Judge → Judgement) → Result Judge CheckError → Judgement
by_verdict line after (Ok judge) = after judge
by_verdict line after (Err cause) = refused line cause

-- the judgement of lines, after so many others
abbrev pub judgement_from : ℕ → Judge → List (List ℕ) → Judgement
judgement_from before judge [] = accepted judge.accepted
judgement_from before judge (line ∷ lines) = by_verdict (before + 1) (λ next. judgement_from (before + 1) next lines) (judged judge line)

abbrev pub judgement : List (List ℕ) → Judgement
judgement lines = judgement_from 0 nothing_reported lines

-- the word of a cause; out of memory is none, and no judgement names it
abbrev pub cause_text : CheckError → List ℕ
cause_text causes.Syntax = codes "syntax"
cause_text causes.Timelines = codes "timelines"
cause_text causes.Full = codes "full"
cause_text causes.Place = codes "place"
cause_text causes.Number = codes "number"
cause_text causes.Row = codes "row"
cause_text causes.Replay = codes "replay"
cause_text causes.Bridge = codes "bridge"
cause_text causes.Entry = codes "entry"
cause_text causes.NoMemory = []

-- the line that says a judgement
abbrev pub judgement_text : Judgement → List ℕ
judgement_text (accepted count) = codes "accepted " ++ decimal count
judgement_text (refused line cause) = codes "refused line " ++ (decimal line ++ (codes " " ++ cause_text cause))
