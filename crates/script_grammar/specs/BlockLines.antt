-- The lines within a block: `end`, lines that are passed over, and row lines.
use Rattle.std.specs.Prelude.{ℕ, Bool, true, false, List, [], ◌∷◌, codes, Option, None, option_map, option_and_then}
use Rattle.std.specs.Str.{bytes_eq}
use Rattle.retro_base.specs.declared.row.Row.{Row}
use Rattle.script_grammar.specs.Words.{words}
use Rattle.script_grammar.specs.Numbers.{row_number_of, time_of}
use Rattle.script_grammar.specs.Operations.{op_of}
use Rattle.script_grammar.specs.Command.{begins_comment}

-- the one word `end`
abbrev pub are_end : List (List ℕ) → Bool
are_end [] = false
are_end (word ∷ []) = bytes_eq word (codes "end")
are_end (word ∷ other ∷ rest) = false

-- no words, or a comment
abbrev pub are_passed_over : List (List ℕ) → Bool
are_passed_over [] = true
are_passed_over (word ∷ rest) = begins_comment word

-- `T OP`, after the number of the row
abbrev pub row_with : ℕ → List (List ℕ) → Option Row
row_with number [] = None
row_with number (word ∷ rest) =
    option_and_then (λ time. option_map (λ op. record { number = number; time = time; op = op }) (op_of rest)) (time_of word)

-- `#N T OP`
abbrev pub row_spelled : List (List ℕ) → Option Row
row_spelled [] = None
row_spelled (word ∷ rest) = option_and_then (λ number. row_with number rest) (row_number_of word)

-- a line ends a block
unfoldable pub is_end : List ℕ → Bool
is_end line = are_end (words line)

-- a line is passed over
unfoldable pub is_passed_over : List ℕ → Bool
is_passed_over line = are_passed_over (words line)

-- the row of a row line
unfoldable pub row_read : List ℕ → Option Row
row_read line = row_spelled (words line)
