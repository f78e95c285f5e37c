-- The name of a command is one, and the numbers of a command and of a row line are in their ranges.
use Rattle.std.proofs.Common.{◌≡◌, ℕ, zero, suc, ◌-◌, ◌^◌, ◌≤◌, ℤ, pos, Bool, true, cond, arith, List, [], ◌∷◌}
use Rattle.std.specs.Prelude.{◌==◌, neg_ℤ, Option, Some, None, option_map, option_and_then, IfSome, IfOk}
use Rattle.std.specs.Option.{ok_or}
use Rattle.retro_base.specs.declared.kind.Kind.{Kind}
use Rattle.retro_base.specs.declared.row.Row.{Row}
use Rattle.retro_base.specs.Limits.{next_limit}
use Rattle.retro_base.specs.Name.{is_name, name_of}
use Rattle.evidence.specs.Evidence.{IsRowNumber}
use Rattle.script_grammar.specs.declared.command.Command.{Command}
use Rattle.script_grammar.specs.declared.command.Command.TheVariants.{Nothing, New, Insert, Delete, Move, Change, Fate, Ask, Undo, Redo, Save, Mute, Header}
use Rattle.script_grammar.specs.declared.command.LineError.TheVariants.{Syntax}
use Rattle.script_grammar.specs.declared.command.Spot.{Spot}
use Rattle.script_grammar.specs.declared.operands.Operands.{Operands}
use Rattle.script_grammar.specs.declared.operands.Operands.TheVariants.{Bare, Unary, Binary}
use Rattle.script_grammar.specs.BlockLines.{row_read, row_spelled, row_with}
use Rattle.script_grammar.specs.Command.{about, ask_at, ask_of, ask_then, change_of, command, command_of}
use Rattle.script_grammar.specs.Command.{delete_of, fate_of, header_count, header_end, header_kind, header_next, header_of, header_rows}
use Rattle.script_grammar.specs.Command.{insert_of, move_at, move_of, move_time, mute_of, new_kind, new_of, save_of, spot_of}
use Rattle.script_grammar.specs.Numbers.{between, natural_of, next_of, row_number_of, time_of, up_to, value_of}
use Rattle.script_grammar.specs.Operands.{alone, operands_after, operands_of}
use Rattle.script_grammar.specs.Operations.{op_of, op_with}
use Rattle.script_grammar.specs.SpellingLaws.{HasValues, IsValue}
use Rattle.script_grammar.specs.Words.{words}

abbrev IsNamed : List ℕ → Type 0
IsNamed name = is_name name ≡ true

abbrev IsNext : ℕ → Type 0
IsNext next = (1 ≤ next) × (next ≤ next_limit)

-- what a command is sure to have
abbrev pub IsSpelled : Command → Type 0
IsSpelled Nothing = Unit {0}
IsSpelled (New name kind fused) = IsNamed name
IsSpelled (Insert name spot op) = IsNamed name × HasValues op
IsSpelled (Delete name number) = IsNamed name
IsSpelled (Move name number time) = IsNamed name
IsSpelled (Change name number op) = IsNamed name × HasValues op
IsSpelled (Fate name number) = IsNamed name
IsSpelled (Ask name moment query) = IsNamed name
IsSpelled (Undo name) = IsNamed name
IsSpelled (Redo name) = IsNamed name
IsSpelled (Save name) = IsNamed name
IsSpelled (Mute number) = Unit {0}
IsSpelled (Header name kind next rows) = IsNamed name × IsNext next

-- and the row of a row line
abbrev pub IsRowSpelled : Row → Type 0
IsRowSpelled row = IsRowNumber row.number × HasValues row.op

module _ {X : Type 0} (P : X → Type 0) where
  chosen : (b : Bool) (o other : Option X) → IfSome o P → IfSome other P → IfSome (cond b o other) P
  chosen b o other first second = grind arith

  last : (x : X) (rest : List (List ℕ)) → P x → IfSome (alone x rest) P
  last x [] holds = holds
  last x (word ∷ rest) holds = tt

  module _ {A : Type 0} where
    mapped : (f : A → X) (o : Option A) → ((a : A) → P (f a)) → IfSome (option_map f o) P
    mapped f None each = tt
    mapped f (Some a) each = each a

    mapped_from : (Q : A → Type 0) (f : A → X) (o : Option A) → IfSome o Q → ((a : A) → Q a → P (f a)) → IfSome (option_map f o) P
    mapped_from Q f None holds each = tt
    mapped_from Q f (Some a) holds each = each a holds

    chained : (f : A → Option X) (o : Option A) → ((a : A) → IfSome (f a) P) → IfSome (option_and_then f o) P
    chained f None each = tt
    chained f (Some a) each = each a

    chained_from : (Q : A → Type 0) (f : A → Option X) (o : Option A) → IfSome o Q → ((a : A) → Q a → IfSome (f a) P) → IfSome (option_and_then f o) P
    chained_from Q f None holds each = tt
    chained_from Q f (Some a) holds each = each a holds

-- names and numbers
named_spelled : (word : List ℕ) → IfSome (name_of word) IsNamed
named_spelled word = grind arith

up_to_spelled : (most n : ℕ) → IfSome (up_to most n) (λ m. m ≤ most)
up_to_spelled most n = grind arith

between_spelled : (least most n : ℕ) → IfSome (between least most n) (λ m. (least ≤ m) × (m ≤ most))
between_spelled least most n = grind arith

next_spelled : (word : List ℕ) → IfSome (next_of word) IsNext
unfolding next_of
next_spelled word = chained IsNext (between 1 next_limit) (natural_of word) (λ n. between_spelled 1 next_limit n)

below : (o : Option ℕ) → IfSome o (λ m. (1 ≤ m) × (m ≤ next_limit - 1)) → IfSome o IsRowNumber
below None range = tt
below (Some m) range = (range.0, omega (arith, range.1))

row_number_spelled : (word : List ℕ) → IfSome (row_number_of word) IsRowNumber
unfolding row_number_of
row_number_spelled [] = tt
row_number_spelled (byte ∷ bytes) =
    chosen IsRowNumber (byte == 35) (option_and_then (between 1 (next_limit - 1)) (natural_of bytes)) None
    (chained IsRowNumber (between 1 (next_limit - 1)) (natural_of bytes) (λ n. below (between 1 (next_limit - 1) n) (between_spelled 1 (next_limit - 1) n))) tt

negative : (n : ℕ) → n ≤ 2 ^ 63 → IsValue (neg_ℤ (pos n))
negative zero most = omega arith
negative (suc n) most = omega arith

value_spelled : (word : List ℕ) → IfSome (value_of word) IsValue
unfolding value_of
value_spelled [] = tt
value_spelled (byte ∷ bytes) =
    chosen IsValue (byte == 45) _ _
    (mapped_from IsValue (λ n. n ≤ 2 ^ 63) (λ n. neg_ℤ (pos n)) (option_and_then (up_to (2 ^ 63)) (natural_of bytes))
    (chained (λ n. n ≤ 2 ^ 63) (up_to (2 ^ 63)) (natural_of bytes) (λ n. up_to_spelled (2 ^ 63) n)) negative)
    (mapped_from IsValue (λ n. n ≤ 2 ^ 63 - 1) pos (option_and_then (up_to (2 ^ 63 - 1)) (natural_of (byte ∷ bytes)))
    (chained (λ n. n ≤ 2 ^ 63 - 1) (up_to (2 ^ 63 - 1)) (natural_of (byte ∷ bytes)) (λ n. up_to_spelled (2 ^ 63 - 1) n)) (λ n most. omega (arith, most)))

-- operations
abbrev AreValues : Operands → Type 0
AreValues Bare = Unit {0}
AreValues (Unary value) = IsValue value
AreValues (Binary key value) = IsValue key × IsValue value

operands_after_spelled : (first : ℤ) (rest : List (List ℕ)) → IsValue first → IfSome (operands_after first rest) AreValues
operands_after_spelled first [] is = is
operands_after_spelled first (word ∷ rest) is =
    chained_from AreValues IsValue (λ second. alone (Binary first second) rest) (value_of word) (value_spelled word) (λ second value. last AreValues (Binary first second) rest (is, value))

operands_spelled : (rest : List (List ℕ)) → IfSome (operands_of rest) AreValues
operands_spelled [] = tt
operands_spelled (word ∷ rest) =
    chained_from AreValues IsValue (λ first. operands_after first rest) (value_of word) (value_spelled word) (λ first value. operands_after_spelled first rest value)

op_with_spelled : (word : List ℕ) (operands : Operands) → AreValues operands → IfSome (op_with word operands) HasValues
op_with_spelled word Bare are = search chosen depth 10
op_with_spelled word (Unary value) are = search chosen depth 10
op_with_spelled word (Binary key value) are = search chosen depth 10

op_spelled : (rest : List (List ℕ)) → IfSome (op_of rest) HasValues
op_spelled [] = tt
op_spelled (word ∷ rest) = chained_from HasValues AreValues (λ operands. op_with word operands) (operands_of rest) (operands_spelled rest) (λ operands are. op_with_spelled word operands are)

-- row lines
row_with_spelled : (number : ℕ) (rest : List (List ℕ)) → IsRowNumber number → IfSome (row_with number rest) IsRowSpelled
row_with_spelled number [] is = tt
row_with_spelled number (word ∷ rest) is =
    chained IsRowSpelled _ (time_of word) (λ time. mapped_from IsRowSpelled HasValues _ (op_of rest) (op_spelled rest) (λ op values. (is, values)))

row_words_spelled : (spelled : List (List ℕ)) → IfSome (row_spelled spelled) IsRowSpelled
row_words_spelled [] = tt
row_words_spelled (word ∷ rest) =
    chained_from IsRowSpelled IsRowNumber (λ number. row_with number rest) (row_number_of word) (row_number_spelled word) (λ number is. row_with_spelled number rest is)

pub row_is_spelled : (line : List ℕ) → IfSome (row_read line) IsRowSpelled
unfolding row_read
row_is_spelled line = row_words_spelled (words line)

-- commands
with_name : (f : List ℕ → Option Command) (word : List ℕ) → ((name : List ℕ) → IsNamed name → IfSome (f name) IsSpelled) → IfSome (option_and_then f (name_of word)) IsSpelled
with_name f word each = chained_from IsSpelled IsNamed f (name_of word) (named_spelled word) each

new_kind_spelled : (name : List ℕ) → IsNamed name → (rest : List (List ℕ)) → IfSome (new_kind name rest) IsSpelled
new_kind_spelled name named [] = tt
new_kind_spelled name named (word ∷ rest) = search (chosen, chained, last) depth 8

new_spelled : (rest : List (List ℕ)) → IfSome (new_of rest) IsSpelled
new_spelled [] = tt
new_spelled (word ∷ rest) = with_name (λ name. new_kind name rest) word (λ name named. new_kind_spelled name named rest)

save_spelled : (rest : List (List ℕ)) → IfSome (save_of rest) IsSpelled
save_spelled [] = tt
save_spelled (word ∷ rest) = with_name (λ name. alone (Save name) rest) word (λ name named. last IsSpelled (Save name) rest named)

mute_spelled : (rest : List (List ℕ)) → IfSome (mute_of rest) IsSpelled
mute_spelled [] = tt
mute_spelled (word ∷ rest) = search (chained, last)

module _ (name : List ℕ) (named : IsNamed name) where
  insert_spelled : (word : List ℕ) (rest : List (List ℕ)) → IfSome (insert_of name word rest) IsSpelled
  insert_spelled word [] = tt
  insert_spelled word (place ∷ rest) =
      chained IsSpelled _ (spot_of word place) (λ spot. mapped_from IsSpelled HasValues (Insert name spot) (op_of rest) (op_spelled rest) (λ op values. (named, values)))

  delete_spelled : (rest : List (List ℕ)) → IfSome (delete_of name rest) IsSpelled
  delete_spelled [] = tt
  delete_spelled (word ∷ rest) = search (chained, last)

  move_time_spelled : (number : ℕ) (rest : List (List ℕ)) → IfSome (move_time name number rest) IsSpelled
  move_time_spelled number [] = tt
  move_time_spelled number (word ∷ rest) = search (chained, last)

  move_at_spelled : (number : ℕ) (rest : List (List ℕ)) → IfSome (move_at name number rest) IsSpelled
  move_at_spelled number [] = tt
  move_at_spelled number (word ∷ rest) = search (chosen, move_time_spelled)

  move_spelled : (rest : List (List ℕ)) → IfSome (move_of name rest) IsSpelled
  move_spelled [] = tt
  move_spelled (word ∷ rest) = search (chained, move_at_spelled)

  change_spelled : (rest : List (List ℕ)) → IfSome (change_of name rest) IsSpelled
  change_spelled [] = tt
  change_spelled (word ∷ rest) =
      chained IsSpelled _ (row_number_of word) (λ number. mapped_from IsSpelled HasValues (Change name number) (op_of rest) (op_spelled rest) (λ op values. (named, values)))

  fate_spelled : (rest : List (List ℕ)) → IfSome (fate_of name rest) IsSpelled
  fate_spelled [] = tt
  fate_spelled (word ∷ rest) = search (chained, last)

  ask_at_spelled : (spot : Spot) (rest : List (List ℕ)) → IfSome (ask_at name spot rest) IsSpelled
  ask_at_spelled spot [] = tt
  ask_at_spelled spot (word ∷ rest) = search mapped

  ask_then_spelled : (word : List ℕ) (rest : List (List ℕ)) → IfSome (ask_then name word rest) IsSpelled
  ask_then_spelled word [] = tt
  ask_then_spelled word (place ∷ rest) = search (chained, ask_at_spelled)

  ask_spelled : (rest : List (List ℕ)) → IfSome (ask_of name rest) IsSpelled
  ask_spelled [] = tt
  ask_spelled (word ∷ rest) = search (chosen, mapped, ask_then_spelled)

  about_spelled : (rest : List (List ℕ)) → IfSome (about name rest) IsSpelled
  about_spelled [] = tt
  about_spelled (word ∷ rest) =
      search (chosen, last, ask_spelled, delete_spelled, move_spelled, change_spelled, fate_spelled, insert_spelled) depth 12

  header_count_spelled : (kind : Kind) (next : ℕ) (rest : List (List ℕ)) → IsNext next → IfSome (header_count name kind next rest) IsSpelled
  header_count_spelled kind next [] range = tt
  header_count_spelled kind next (word ∷ rest) range = search (chained, last)

  header_rows_spelled : (kind : Kind) (next : ℕ) (rest : List (List ℕ)) → IsNext next → IfSome (header_rows name kind next rest) IsSpelled
  header_rows_spelled kind next [] range = (named, range)
  header_rows_spelled kind next (word ∷ rest) range = search (chosen, header_count_spelled)

  header_next_spelled : (kind : Kind) (rest : List (List ℕ)) → IfSome (header_next name kind rest) IsSpelled
  header_next_spelled kind [] = tt
  header_next_spelled kind (word ∷ rest) =
      chained_from IsSpelled IsNext (λ next. header_rows name kind next rest) (next_of word) (next_spelled word) (λ next range. header_rows_spelled kind next rest range)

  header_end_spelled : (kind : Kind) (rest : List (List ℕ)) → IfSome (header_end name kind rest) IsSpelled
  header_end_spelled kind [] = tt
  header_end_spelled kind (word ∷ rest) = search (chosen, header_next_spelled)

  header_kind_spelled : (rest : List (List ℕ)) → IfSome (header_kind name rest) IsSpelled
  header_kind_spelled [] = tt
  header_kind_spelled (word ∷ rest) = search (chained, header_end_spelled)

header_spelled : (rest : List (List ℕ)) → IfSome (header_of rest) IsSpelled
header_spelled [] = tt
header_spelled (word ∷ rest) = with_name (λ name. header_kind name rest) word (λ name named. header_kind_spelled name named rest)

command_words_spelled : (spelled : List (List ℕ)) → IfSome (command_of spelled) IsSpelled
command_words_spelled [] = tt
command_words_spelled (word ∷ rest) = search (chosen, with_name, new_spelled, save_spelled, header_spelled, mute_spelled, about_spelled) depth 12

or_syntax : (o : Option Command) → IfSome o IsSpelled → IfOk (ok_or o Syntax) IsSpelled
or_syntax None holds = tt
or_syntax (Some command) holds = holds

pub command_is_spelled : (line : List ℕ) → IfOk (command line) IsSpelled
unfolding command
command_is_spelled line = or_syntax (command_of (words line)) (command_words_spelled (words line))
