-- What a line is answered.
use Rattle.std.specs.Prelude.{ℕ, Bool, true, false, List, [], ◌∷◌, ◌++◌, codes, decimal}
use Rattle.retro_base.specs.Limits.{most_timelines}
use Rattle.std.specs.List.{flat_map}
use Rattle.evidence.specs.declared.evidence.Evidence.{Evidence}
use Rattle.evidence.specs.Spelling.{spelling}
use Rattle.script_grammar.specs.AnswerText.{answer_text, listing_text}
use Rattle.timeline_file.specs.declared.block.BlockError.{BlockError}
use Rattle.timeline_file.specs.declared.block.BlockError.TheVariants as blocks
use Rattle.timeline_file.specs.declared.block.RowCause.{RowCause}
use Rattle.timeline_file.specs.declared.block.RowCause.TheVariants as causes
use Rattle.timeline_file.specs.Saved.{saved}
use Rattle.reactions.specs.declared.outcome.Outcome.{Outcome}
use Rattle.reactions.specs.declared.outcome.Outcome.TheVariants.{Silent, Accepted, Inserted, Changed, Loaded, Answered, Listed, Saved, Taken, Stays, Refused}
use Rattle.reactions.specs.declared.outcome.Refusal.{Refusal}
use Rattle.reactions.specs.declared.outcome.Refusal.TheVariants.{Long, Syntax, NoTimeline, NameTaken, Timelines, Kind, NoRow, Full, Numbers, At}
use Rattle.reactions.specs.declared.outcome.Refusal.TheVariants.{NothingToUndo, NothingToRedo, RowLine, Unfinished, Next, Rows, NoItem, NoFollower}

-- why a row line of a block is bad
abbrev pub cause_text : RowCause → List ℕ
cause_text causes.Syntax = codes "syntax"
cause_text causes.Kind = codes "kind"
cause_text causes.Number = codes "number"
cause_text causes.Time = codes "time"
cause_text causes.Replay = codes "replay"

-- the refusal of a block, by what is wrong with it
abbrev pub block_refusal : BlockError → Refusal
block_refusal (blocks.Row place cause) = RowLine place cause
block_refusal blocks.Full = Full
block_refusal blocks.Unfinished = Unfinished
block_refusal blocks.Next = Next
block_refusal blocks.Rows = Rows

-- the text of a refusal
abbrev pub refusal_text : Refusal → List ℕ
refusal_text Long = codes "refused long"
refusal_text Syntax = codes "refused syntax"
refusal_text (NoTimeline name) = codes "refused no timeline " ++ name
refusal_text NameTaken = codes "refused name taken"
refusal_text Timelines = codes "refused timelines " ++ decimal most_timelines
refusal_text Kind = codes "refused kind"
refusal_text (NoRow number) = codes "refused no row #" ++ decimal number
refusal_text Full = codes "refused full"
refusal_text Numbers = codes "refused numbers"
refusal_text NothingToUndo = codes "refused nothing to undo"
refusal_text NothingToRedo = codes "refused nothing to redo"
refusal_text (RowLine place cause) = codes "refused row " ++ decimal place ++ codes " " ++ cause_text cause
refusal_text Unfinished = codes "refused unfinished"
refusal_text Next = codes "refused next"
refusal_text Rows = codes "refused rows"
refusal_text (NoItem number) = codes "refused no item #" ++ decimal number
refusal_text (NoFollower number) = codes "refused no follower " ++ decimal number
refusal_text (At number time) = codes "refused at #" ++ decimal number ++ codes " " ++ decimal time

-- a text on a line of its own
abbrev pub as_line : List ℕ → List ℕ
as_line text = text ++ 10 ∷ []

-- evidence, each on a line of its own
abbrev pub evidence_line : Evidence → List ℕ
evidence_line evidence = as_line (spelling evidence)

abbrev pub evidence_lines : List Evidence → List ℕ
evidence_lines evidence = flat_map evidence_line evidence

-- the lines that answer a line
abbrev pub reply_text : Outcome → List ℕ
reply_text Silent = []
reply_text Accepted = as_line (codes "ok")
reply_text (Inserted number) = as_line (codes "ok #" ++ decimal number)
reply_text (Changed first more) = evidence_line first ++ evidence_lines more
reply_text (Loaded evidence) = as_line (codes "ok") ++ evidence_lines evidence
reply_text (Answered answer) = as_line (answer_text answer)
reply_text (Listed listing) = as_line (listing_text listing)
reply_text (Saved name kind next rows) = saved name kind next rows
reply_text (Taken number time) = as_line (codes "= taken #" ++ decimal number ++ codes " " ++ decimal time)
reply_text Stays = as_line (codes "= stays")
reply_text (Refused refusal) = as_line (refusal_text refusal)

-- the outcome is a refusal
abbrev pub is_refusal : Outcome → Bool
is_refusal Silent = false
is_refusal Accepted = false
is_refusal (Inserted number) = false
is_refusal (Changed first more) = false
is_refusal (Loaded evidence) = false
is_refusal (Answered answer) = false
is_refusal (Listed listing) = false
is_refusal (Saved name kind next rows) = false
is_refusal (Taken number time) = false
is_refusal Stays = false
is_refusal (Refused refusal) = true
