-- What a generated script comes to: how many of its lines are accepted and refused, and what its timeline has at the end.
use Rattle.std.specs.Prelude.{ℕ, ◌-◌, Bool, true, false, List, [], ◌∷◌, ◌++◌, length, codes, decimal}
use Rattle.std.specs.List.{filter}
use Rattle.std.specs.Option.{option_map_or}
use Rattle.retro_base.specs.declared.kind.Kind.{Kind}
use Rattle.retro_io.specs.Lines.{line_feed}
use Rattle.script_gen.specs.Script.{generated}
use Rattle.reactions.specs.Answers.{bench_after, reactions}
use Rattle.reactions.specs.Bench.{Bench, NamedTimeline, empty_bench, present_size, timeline_of}
use Rattle.reactions.specs.Reaction.{Reaction}

-- the most lines that a generated script has after its first one
abbrev pub most_generated : ℕ
most_generated = 1000000

-- the name of the timeline of a generated script
abbrev pub generated_name : List ℕ
generated_name = codes "g"

-- how many lines are refused where one is answered
abbrev pub one_if : Bool → ℕ
one_if true = 1
one_if false = 0

-- how many lines are refused
abbrev pub refusals : Bench → List (List ℕ) → ℕ
refusals bench lines = length (filter (λ (reaction : Reaction). reaction.refused) (reactions bench lines))

-- a number of the timeline, or 0 where there is none
abbrev pub of_generated : (NamedTimeline → ℕ) → Bench → ℕ
of_generated number bench = option_map_or number (timeline_of generated_name bench.timelines) 0

-- the numbers, each after its word
abbrev pub summary_text : ℕ → ℕ → ℕ → ℕ → List ℕ
summary_text lines refused rows size =
    codes "lines " ++ (decimal lines ++ (codes " accepted " ++ (decimal (lines - refused) ++ (codes " refused " ++ (decimal refused
    ++ (codes " rows " ++ (decimal rows ++ (codes " size " ++ (decimal size ++ line_feed ∷ [])))))))))

-- the summary of lines that are answered from the first one on, when this bench stands after them
abbrev pub summary_at : List (List ℕ) → Bench → List ℕ
summary_at lines bench =
    summary_text (length lines) (refusals empty_bench lines) (of_generated (λ timeline. length timeline.rows) bench) (of_generated present_size bench)

-- the output of `gen`
abbrev pub summary : Kind → ℕ → ℕ → List ℕ
summary kind lines start = summary_at (generated kind lines start) (bench_after empty_bench (generated kind lines start))
