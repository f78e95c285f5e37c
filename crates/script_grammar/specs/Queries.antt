-- Q: a question, as words spell it. It is a word of its own, and the values that it takes.
use Rattle.std.specs.Prelude.{ℕ, ℤ, List, [], ◌∷◌, codes, Option, Some, None, option_map, option_and_then, if◌then◌else◌}
use Rattle.std.specs.Str.{bytes_eq}
use Rattle.retro_base.specs.declared.question.Question.{Question}
use Rattle.retro_base.specs.declared.question.Question.TheVariants.{Size, Front, Back, Top, Left, Right, Min, Nth, Get, Succ, Pred, Count, Sum}
use Rattle.script_grammar.specs.declared.command.Query.{Query}
use Rattle.script_grammar.specs.declared.command.Query.TheVariants.{One, All}
use Rattle.script_grammar.specs.declared.operands.Operands.{Operands}
use Rattle.script_grammar.specs.declared.operands.Operands.TheVariants.{Bare, Unary, Binary}
use Rattle.script_grammar.specs.Numbers.{index_of}
use Rattle.script_grammar.specs.Operands.{alone, operands_of}

-- a question without a value
abbrev pub bare_question : List ℕ → Option Question
bare_question word =
    if bytes_eq word (codes "size") then Some Size
    else (if bytes_eq word (codes "front") then Some Front
    else (if bytes_eq word (codes "back") then Some Back
    else (if bytes_eq word (codes "top") then Some Top
    else (if bytes_eq word (codes "left") then Some Left
    else (if bytes_eq word (codes "right") then Some Right
    else (if bytes_eq word (codes "min") then Some Min
    else None))))))

-- a question about one key
abbrev pub unary_question : List ℕ → ℤ → Option Question
unary_question word key =
    if bytes_eq word (codes "get") then Some (Get key)
    else (if bytes_eq word (codes "succ") then Some (Succ key)
    else (if bytes_eq word (codes "pred") then Some (Pred key)
    else None))

-- a question about the keys from one to another
abbrev pub binary_question : List ℕ → ℤ → ℤ → Option Question
binary_question word low high =
    if bytes_eq word (codes "count") then Some (Count low high)
    else (if bytes_eq word (codes "sum") then Some (Sum low high)
    else None)

-- the question that a word and the values after it spell
abbrev pub question_with : List ℕ → Operands → Option Question
question_with word Bare = bare_question word
question_with word (Unary key) = unary_question word key
question_with word (Binary low high) = binary_question word low high

-- `nth i`, after its first word
abbrev pub nth_of : List (List ℕ) → Option Question
nth_of [] = None
nth_of (word ∷ rest) = option_and_then (λ index. alone (Nth index) rest) (index_of word)

-- the question that a word and those after it spell
abbrev pub question_of : List ℕ → List (List ℕ) → Option Question
question_of word rest =
    if bytes_eq word (codes "nth") then nth_of rest
    else option_and_then (λ operands. question_with word operands) (operands_of rest)

-- `all`, or one question
abbrev pub query_of : List ℕ → List (List ℕ) → Option Query
query_of word rest =
    if bytes_eq word (codes "all") then alone All rest
    else option_map One (question_of word rest)
