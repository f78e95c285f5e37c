-- What a script gives: the answers to its lines, in their order, from a bench without a timeline, that of its close, and what is reported
-- after them. How its lines are answered is left open first: by the bench alone, or by the bench and those who follow the script.
use Rattle.std.specs.Prelude.{ℕ, Bool, ◌||◌, List, [], ◌∷◌, ◌++◌, map, Option, if◌then◌else◌}
use Rattle.std.specs.List.{concat, list_any}
use Rattle.retro_io.specs.Lines.{lines, has_line_feed}
use Rattle.reactions.specs.Answers.{reactions, bench_after}
use Rattle.reactions.specs.Bench.{empty_bench}
use Rattle.reactions.specs.Reaction.{Reaction, closing}
use Rattle.retro_run.specs.Events.{with_reports}

-- how a script is answered: the reactions to its first lines, and what is reported after all of them, under each number
pub record Answering : Type 0 where
  pub reactions_to : List (List ℕ) → List Reaction
  pub reports_after : List (List ℕ) → List (Option (List ℕ))

-- by the bench alone, and nobody reports
abbrev pub alone : Answering
alone = record { reactions_to = λ first. reactions empty_bench first; reports_after = λ all. [] }

-- the answers to the first lines of a script, one after the other
abbrev pub answers_by : Answering → List (List ℕ) → List ℕ
answers_by answering first = concat (map (λ (reaction : Reaction). reaction.answer) (answering.reactions_to first))

-- one of the first lines of a script is refused
abbrev pub refuses_by : Answering → List (List ℕ) → Bool
refuses_by answering first = list_any (λ (reaction : Reaction). reaction.refused) (answering.reactions_to first)

-- the reaction to the end of the input, after all lines of a script
abbrev pub close_of : List (List ℕ) → Reaction
close_of all = closing (bench_after empty_bench all)

-- the output of a script: the answers to its lines, and that of its close
abbrev pub output_by : Answering → List ℕ → List ℕ
output_by answering bytes = answers_by answering (lines bytes) ++ (close_of (lines bytes)).answer

abbrev pub output : List ℕ → List ℕ
output bytes = output_by alone bytes

-- the whole that a script gives: its output, and the reports after it; of the bench alone it is the output
abbrev pub whole_by : Answering → List ℕ → List ℕ
whole_by answering bytes = with_reports (output_by answering bytes) (answering.reports_after (lines bytes))

-- a script has a line that is refused, or its close is
abbrev pub has_refusal_by : Answering → List ℕ → Bool
has_refusal_by answering bytes = refuses_by answering (lines bytes) || (close_of (lines bytes)).refused

-- the bytes up to their last line feed, which is one of them
unfoldable pub up_to_last_feed : List ℕ → List ℕ
up_to_last_feed [] = []
up_to_last_feed (b ∷ bs) = if has_line_feed (b ∷ bs) then b ∷ up_to_last_feed bs else []
