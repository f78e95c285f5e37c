-- The values after the word of an operation or a question.
use Rattle.std.specs.Prelude.{ℕ, ℤ, List, [], ◌∷◌, Option, Some, None, option_and_then}
use Rattle.script_grammar.specs.declared.operands.Operands.{Operands}
use Rattle.script_grammar.specs.declared.operands.Operands.TheVariants.{Bare, Unary, Binary}
use Rattle.script_grammar.specs.Numbers.{value_of}

-- something that no word may follow
abbrev pub alone : {A : Type 0} → A → List (List ℕ) → Option A
alone what [] = Some what
alone what (word ∷ rest) = None

-- a value, and a second one if there are words after it
abbrev pub operands_after : ℤ → List (List ℕ) → Option Operands
operands_after first [] = Some (Unary first)
operands_after first (word ∷ rest) = option_and_then (λ second. alone (Binary first second) rest) (value_of word)

-- no value, one or two, and no word after them
abbrev pub operands_of : List (List ℕ) → Option Operands
operands_of [] = Some Bare
operands_of (word ∷ rest) = option_and_then (λ first. operands_after first rest) (value_of word)
