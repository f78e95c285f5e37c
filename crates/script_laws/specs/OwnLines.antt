-- The lines of a script that are about one timeline, and what is answered to them. Outside a block each line is an event of its
-- own; a header with all lines up to the close of its block is one event.
use Rattle.std.specs.Prelude.{◌≡◌, ◌≢◌, ℕ, Bool, false, not, ◌&&◌, List, [], ◌∷◌, if◌then◌else◌}
use Rattle.std.specs.Prelude.{Option, Some, None, option_map, Result, Ok, Err}
use Rattle.std.specs.Str.{bytes_eq}
use Rattle.script_grammar.specs.declared.command.Command.{Command}
use Rattle.script_grammar.specs.declared.command.Command.TheVariants.{Nothing, New, Insert, Delete, Move, Change, Fate, Ask, Undo, Redo, Save, Mute, Header}
use Rattle.script_grammar.specs.declared.command.LineError.{LineError}
use Rattle.retro_base.specs.LineLength.{is_long}
use Rattle.script_grammar.specs.BlockLines.{is_end}
use Rattle.reactions.specs.declared.outcome.Outcome.TheVariants.{Refused}
use Rattle.reactions.specs.declared.outcome.Refusal.TheVariants.{Timelines}
use Rattle.reactions.specs.Bench.{OpenBlock, Bench, empty_bench}
use Rattle.reactions.specs.Reaction.{opened, spelled, happens, ends, reacts, closing}

-- the timeline that a command names
abbrev pub name_in : Result Command LineError → Option (List ℕ)
name_in (Err error) = None
name_in (Ok Nothing) = None
name_in (Ok (New name kind fused)) = Some name
name_in (Ok (Insert name spot op)) = Some name
name_in (Ok (Delete name number)) = Some name
name_in (Ok (Move name number time)) = Some name
name_in (Ok (Change name number op)) = Some name
name_in (Ok (Fate name number)) = Some name
name_in (Ok (Ask name moment query)) = Some name
name_in (Ok (Undo name)) = Some name
name_in (Ok (Redo name)) = Some name
name_in (Ok (Save name)) = Some name
name_in (Ok (Mute number)) = None
name_in (Ok (Header name kind next rows)) = Some name

-- the name that a block gives
abbrev pub name_of_block : Option OpenBlock → Option (List ℕ)
name_of_block block = option_map (λ (b : OpenBlock). b.name) block

-- this is the name that is given, if one is
abbrev pub names : List ℕ → Option (List ℕ) → Bool
names name None = false
names name (Some given) = bytes_eq given name

-- the name of the event of a line, by the name of the block that is being read, if there is one
abbrev pub event_of : Option (List ℕ) → List ℕ → Option (List ℕ)
event_of (Some name) line = Some name
event_of None line = name_in (spelled line (is_long line))

-- the name of the block that is being read after the line
abbrev pub block_after : Option (List ℕ) → List ℕ → Option (List ℕ)
block_after (Some name) line = if (not (is_long line) && is_end line) then None else Some name
block_after None line = name_of_block (opened (spelled line (is_long line)))

-- the lines of the events that name a timeline, in order
unfoldable pub own_from : List ℕ → Option (List ℕ) → List (List ℕ) → List (List ℕ)
own_from name block [] = []
own_from name block (line ∷ more) =
    if names name (event_of block line) then line ∷ own_from name (block_after block line) more
    else own_from name (block_after block line) more

abbrev pub own : List ℕ → List (List ℕ) → List (List ℕ)
own name lines = own_from name None lines

-- the answer of the close, where a block is being read at the end of the input
abbrev pub close_answers : Option OpenBlock → List ℕ → List (List ℕ)
close_answers None answer = []
close_answers (Some block) answer = answer ∷ []

-- the answers to the events that name a timeline, one for each of their lines: the answer of a block stands at the line that closes
-- it, and the lines before that one have the empty answer; the end of the input closes a block that is being read
unfoldable pub own_answers_from : List ℕ → Option (List ℕ) → Bench → List (List ℕ) → List (List ℕ)
own_answers_from name block bench [] = if names name block then (closing bench).answer ∷ [] else []
own_answers_from name block bench (line ∷ more) =
    if names name (event_of block line)
    then (reacts bench line).answer ∷ own_answers_from name (block_after block line) (reacts bench line).bench more
    else own_answers_from name (block_after block line) (reacts bench line).bench more

abbrev pub own_answers : List ℕ → List (List ℕ) → List (List ℕ)
own_answers name lines = own_answers_from name None empty_bench lines

-- all answers to lines, one for each line, and that of the close where there is one
unfoldable pub answers_from : Bench → List (List ℕ) → List (List ℕ)
answers_from bench [] = close_answers bench.block (closing bench).answer
answers_from bench (line ∷ more) = (reacts bench line).answer ∷ answers_from (reacts bench line).bench more

abbrev pub all_answers : List (List ℕ) → List (List ℕ)
all_answers lines = answers_from empty_bench lines

-- no `new` and no block among the lines meets the limit of timelines
abbrev pub MeetsNoLimit : Bench → List (List ℕ) → Type 0
MeetsNoLimit bench [] = (ends bench.timelines bench.block false).outcome ≢ Refused Timelines
MeetsNoLimit bench (line ∷ more) =
    ((happens bench.timelines bench.block line (is_long line)).outcome ≢ Refused Timelines) × MeetsNoLimit (reacts bench line).bench more

-- each of a timeline's own lines has the answer among others that it has among them alone
abbrev pub OwnLinesAlone : Type 0
OwnLinesAlone = (name : List ℕ) (lines : List (List ℕ)) → MeetsNoLimit empty_bench lines → own_answers name lines ≡ all_answers (own name lines)
