-- The grammar of the script: what each line asks for. A form is read by place, so that a timeline may be called `at`.
use Rattle.std.specs.Prelude.{◌≡◌, ℕ, ◌≤◌, ◌==◌, Bool, true, false, ◌||◌, List, [], ◌∷◌, codes, Option, Some, None, option_map, option_and_then, Result, if◌then◌else◌}
use Rattle.std.specs.Option.{ok_or}
use Rattle.std.specs.Str.{bytes_eq}
use Rattle.retro_base.specs.Limits.{next_limit}
use Rattle.retro_base.specs.Name.{name_of}
use Rattle.retro_base.specs.declared.kind.Kind.{Kind}
use Rattle.retro_base.specs.declared.kind.Kind.TheVariants.{Queue, Stack, Deque, Dict, Pq}
use Rattle.script_grammar.specs.declared.command.Command.{Command}
use Rattle.script_grammar.specs.declared.command.Command.TheVariants.{Nothing, New, Insert, Delete, Move, Change, Fate, Ask, Undo, Redo, Save, Mute, Header}
use Rattle.script_grammar.specs.declared.command.Spot.{Spot}
use Rattle.script_grammar.specs.declared.command.Spot.TheVariants.{At, Before, After}
use Rattle.script_grammar.specs.declared.command.Moment.TheVariants.{Now, Then}
use Rattle.script_grammar.specs.declared.command.LineError.{LineError}
use Rattle.script_grammar.specs.declared.command.LineError.TheVariants.{Syntax}
use Rattle.script_grammar.specs.Words.{words}
use Rattle.script_grammar.specs.Numbers.{count_of, follower_of, next_of, row_number_of, time_of}
use Rattle.script_grammar.specs.Operands.{alone}
use Rattle.script_grammar.specs.Operations.{op_of}
use Rattle.script_grammar.specs.Queries.{query_of}

-- KIND
abbrev pub kind_of_word : List ℕ → Option Kind
kind_of_word word =
    if bytes_eq word (codes "queue") then Some Queue
    else (if bytes_eq word (codes "stack") then Some Stack
    else (if bytes_eq word (codes "deque") then Some Deque
    else (if bytes_eq word (codes "dict") then Some Dict
    else (if bytes_eq word (codes "pq") then Some Pq
    else None))))

-- KIND of a new timeline, or `pqf`, which is a priority queue that is held as a product of pieces, as the last word
abbrev pub new_kind : List ℕ → List (List ℕ) → Option Command
new_kind name [] = None
new_kind name (word ∷ rest) =
    if bytes_eq word (codes "pqf") then alone (New name Pq true) rest
    else option_and_then (λ kind. alone (New name kind false) rest) (kind_of_word word)

-- `new NAME KIND` and `new NAME pqf`, after its first word
abbrev pub new_of : List (List ℕ) → Option Command
new_of [] = None
new_of (word ∷ rest) = option_and_then (λ name. new_kind name rest) (name_of word)

-- the words that begin a spot
abbrev pub begins_spot : List ℕ → Bool
begins_spot word = bytes_eq word (codes "at") || bytes_eq word (codes "before") || bytes_eq word (codes "after")

-- `at T`, `before #N` or `after #N`
abbrev pub spot_of : List ℕ → List ℕ → Option Spot
spot_of word place =
    if bytes_eq word (codes "at") then option_map At (time_of place)
    else (if bytes_eq word (codes "before") then option_map Before (row_number_of place)
    else (if bytes_eq word (codes "after") then option_map After (row_number_of place)
    else None))

-- `NAME at T OP`, `NAME before #N OP` and `NAME after #N OP`, after their second word
abbrev pub insert_of : List ℕ → List ℕ → List (List ℕ) → Option Command
insert_of name word [] = None
insert_of name word (place ∷ rest) = option_and_then (λ spot. option_map (Insert name spot) (op_of rest)) (spot_of word place)

-- `NAME delete #N`, after its second word
abbrev pub delete_of : List ℕ → List (List ℕ) → Option Command
delete_of name [] = None
delete_of name (word ∷ rest) = option_and_then (λ number. alone (Delete name number) rest) (row_number_of word)

-- `T` of a move, as the last word
abbrev pub move_time : List ℕ → ℕ → List (List ℕ) → Option Command
move_time name number [] = None
move_time name number (word ∷ rest) = option_and_then (λ time. alone (Move name number time) rest) (time_of word)

-- `at T` of a move
abbrev pub move_at : List ℕ → ℕ → List (List ℕ) → Option Command
move_at name number [] = None
move_at name number (word ∷ rest) = if bytes_eq word (codes "at") then move_time name number rest else None

-- `NAME move #N at T`, after its second word
abbrev pub move_of : List ℕ → List (List ℕ) → Option Command
move_of name [] = None
move_of name (word ∷ rest) = option_and_then (λ number. move_at name number rest) (row_number_of word)

-- `NAME change #N OP`, after its second word
abbrev pub change_of : List ℕ → List (List ℕ) → Option Command
change_of name [] = None
change_of name (word ∷ rest) = option_and_then (λ number. option_map (Change name number) (op_of rest)) (row_number_of word)

-- `NAME fate #N`, after its second word
abbrev pub fate_of : List ℕ → List (List ℕ) → Option Command
fate_of name [] = None
fate_of name (word ∷ rest) = option_and_then (λ number. alone (Fate name number) rest) (row_number_of word)

-- Q, at a moment
abbrev pub ask_at : List ℕ → Spot → List (List ℕ) → Option Command
ask_at name spot [] = None
ask_at name spot (word ∷ rest) = option_map (Ask name (Then spot)) (query_of word rest)

-- `NAME ask at T Q`, `NAME ask before #N Q` and `NAME ask after #N Q`, after their third word
abbrev pub ask_then : List ℕ → List ℕ → List (List ℕ) → Option Command
ask_then name word [] = None
ask_then name word (place ∷ rest) = option_and_then (λ spot. ask_at name spot rest) (spot_of word place)

-- `NAME ask Q`, or `NAME ask` at a moment, after the second word
abbrev pub ask_of : List ℕ → List (List ℕ) → Option Command
ask_of name [] = None
ask_of name (word ∷ rest) =
    if begins_spot word then ask_then name word rest
    else option_map (Ask name Now) (query_of word rest)

-- the forms that begin with a name, after it
abbrev pub about : List ℕ → List (List ℕ) → Option Command
about name [] = None
about name (word ∷ rest) =
    if bytes_eq word (codes "ask") then ask_of name rest
    else (if bytes_eq word (codes "delete") then delete_of name rest
    else (if bytes_eq word (codes "move") then move_of name rest
    else (if bytes_eq word (codes "change") then change_of name rest
    else (if bytes_eq word (codes "fate") then fate_of name rest
    else (if bytes_eq word (codes "undo") then alone (Undo name) rest
    else (if bytes_eq word (codes "redo") then alone (Redo name) rest
    else insert_of name word rest))))))

-- `save NAME`, after its first word
abbrev pub save_of : List (List ℕ) → Option Command
save_of [] = None
save_of (word ∷ rest) = option_and_then (λ name. alone (Save name) rest) (name_of word)

-- `mute I`, after its first word
abbrev pub mute_of : List (List ℕ) → Option Command
mute_of [] = None
mute_of (word ∷ rest) = option_and_then (λ number. alone (Mute number) rest) (follower_of word)

-- `M` of a header, as the last word
abbrev pub header_count : List ℕ → Kind → ℕ → List (List ℕ) → Option Command
header_count name kind next [] = None
header_count name kind next (word ∷ rest) = option_and_then (λ rows. alone (Header name kind next (Some rows)) rest) (count_of word)

-- `rows M` of a header, or nothing
abbrev pub header_rows : List ℕ → Kind → ℕ → List (List ℕ) → Option Command
header_rows name kind next [] = Some (Header name kind next None)
header_rows name kind next (word ∷ rest) = if bytes_eq word (codes "rows") then header_count name kind next rest else None

-- `N` of a header, and what follows it
abbrev pub header_next : List ℕ → Kind → List (List ℕ) → Option Command
header_next name kind [] = None
header_next name kind (word ∷ rest) = option_and_then (λ next. header_rows name kind next rest) (next_of word)

-- `next N` of a header, and what follows it
abbrev pub header_end : List ℕ → Kind → List (List ℕ) → Option Command
header_end name kind [] = None
header_end name kind (word ∷ rest) = if bytes_eq word (codes "next") then header_next name kind rest else None

-- `KIND next N` of a header, and what follows it
abbrev pub header_kind : List ℕ → List (List ℕ) → Option Command
header_kind name [] = None
header_kind name (word ∷ rest) = option_and_then (λ kind. header_end name kind rest) (kind_of_word word)

-- `timeline NAME KIND next N` and `timeline NAME KIND next N rows M`, after their first word
abbrev pub header_of : List (List ℕ) → Option Command
header_of [] = None
header_of (word ∷ rest) = option_and_then (λ name. header_kind name rest) (name_of word)

-- a word that begins with `;`, byte 59: whatever follows it on its line is passed over
abbrev pub begins_comment : List ℕ → Bool
begins_comment [] = false
begins_comment (byte ∷ bytes) = byte == 59

-- the command that the words spell
abbrev pub command_of : List (List ℕ) → Option Command
command_of [] = Some Nothing
command_of (word ∷ rest) =
    if begins_comment word then Some Nothing
    else (if bytes_eq word (codes "new") then new_of rest
    else (if bytes_eq word (codes "save") then save_of rest
    else (if bytes_eq word (codes "timeline") then header_of rest
    else (if bytes_eq word (codes "mute") then mute_of rest
    else option_and_then (λ name. about name rest) (name_of word)))))

-- the command of a line that is not long, or `Syntax` where the line is in no form
unfoldable pub command : List ℕ → Result Command LineError
command line = ok_or (command_of (words line)) Syntax

-- what holds of each command that a line spells: the number that a header gives to draw next is in its range, and what is held as
-- a product of pieces is a priority queue
abbrev pub IsProper : Command → Type 0
IsProper (New name kind fused) = fused ≡ true → kind ≡ Pq
IsProper (Header name kind next rows) = (1 ≤ next) × (next ≤ next_limit)
IsProper other = Unit {0}
