-- The events among answers, and the lines in which followers report of them.
use Rattle.std.specs.Prelude.{ℕ, ◌+◌, List, [], ◌∷◌, ◌++◌, get_or, take, codes, decimal, filter_map, flat_map, Option, None, Some, IsSome}
use Rattle.retro_io.specs.Lines.{line_feed, lines}
use Rattle.retro_io.specs.Sink.{Appends}
use Rattle.evidence.specs.declared.evidence.Evidence.{Evidence}
use Rattle.evidence.specs.Reading.{evidence_of}
use Rattle.reactions.specs.Answers.{reactions}
use Rattle.reactions.specs.Bench.{empty_bench}
use Rattle.reactions.specs.Reaction.{Reaction}

-- the events that lines spell: other lines are passed over
abbrev pub events_spelled : List (List ℕ) → List Evidence
events_spelled all = filter_map evidence_of all

-- the events among the lines of an answer, which is cut into lines as an input is
abbrev pub events_among : List ℕ → List Evidence
events_among answer = events_spelled (lines answer)

-- the events of the first lines of a script: those among the answers to them
abbrev pub events : List (List ℕ) → List Evidence
events first = flat_map (λ (reaction : Reaction). events_among reaction.answer) (reactions empty_bench first)

-- the line `report I TEXT`
abbrev pub report_line : ℕ → List ℕ → List ℕ
report_line number text = codes "report " ++ (decimal number ++ (codes " " ++ (text ++ line_feed ∷ [])))

-- the line of a number, if it has a report
abbrev pub line_of : ℕ → Option (List ℕ) → List ℕ
line_of number None = []
line_of number (Some text) = report_line number text

-- a line for each report, numbered from this number on
abbrev pub report_lines : ℕ → List (Option (List ℕ)) → List ℕ
report_lines number [] = []
report_lines number (text ∷ texts) = line_of number text ++ report_lines (number + 1) texts

-- a text, and the lines of the reports after it, where there are any
abbrev pub with_reports : List ℕ → List (Option (List ℕ)) → List ℕ
with_reports text [] = text
with_reports text (report ∷ reports) = text ++ report_lines 0 (report ∷ reports)

-- the whole lines of some first reports were appended, up to a follower that is left
pub record AppendsFirstReports (texts : List (Option (List ℕ))) (before after : Option (List ℕ)) : Type 0 where
  pub count : ℕ
  pub asked : IsSome (get_or texts count None)
  pub appended : Appends before (report_lines 0 (take count texts)) after
