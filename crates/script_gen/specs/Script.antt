-- The generated script: a timeline named `g`, and so many lines about it, each made of some draws.
use Rattle.std.specs.Prelude.{ℕ, zero, suc, ◌+◌, ◌%◌, ◌==◌, pos, nat_le, List, [], ◌∷◌, ◌++◌, codes, decimal, if◌then◌else◌}
use Rattle.retro_base.specs.declared.kind.Kind.{Kind}
use Rattle.retro_base.specs.declared.kind.Kind.TheVariants.{Queue, Stack, Deque, Dict, Pq}
use Rattle.retro_base.specs.declared.op.Op.{Op}
use Rattle.retro_base.specs.declared.op.Op.TheVariants.{Enq, Deq, Push, Pop, PushL, PushR, PopL, PopR, Put, Del, Ins, DelMin}
use Rattle.retro_base.specs.OpText.{op_text}
use Rattle.script_gen.specs.declared.line.Line.{Line}
use Rattle.script_gen.specs.declared.line.Line.TheVariants.{Insert, Delete, AskMain, AskSize}
use Rattle.script_gen.specs.Draws.{first_draw, second_draw, state_after}

-- an operation that adds to a structure of this kind, and how many draws it takes
abbrev pub adding_op : Kind → ℕ → Op
adding_op Queue state = Enq (pos (first_draw state % 1000))
adding_op Stack state = Push (pos (first_draw state % 1000))
adding_op Deque state =
    if first_draw state % 2 == 0 then PushL (pos (second_draw state % 1000))
    else PushR (pos (second_draw state % 1000))
adding_op Dict state = Put (pos (first_draw state % 100)) (pos (second_draw state % 1000))
adding_op Pq state = Ins (pos (first_draw state % 1000))

abbrev pub adding_draws : Kind → ℕ
adding_draws Queue = 1
adding_draws Stack = 1
adding_draws Deque = 2
adding_draws Dict = 2
adding_draws Pq = 1

-- an operation that takes from it, and how many draws it takes
abbrev pub taking_op : Kind → ℕ → Op
taking_op Queue state = Deq
taking_op Stack state = Pop
taking_op Deque state = if first_draw state % 2 == 0 then PopL else PopR
taking_op Dict state = Del (pos (first_draw state % 100))
taking_op Pq state = DelMin

abbrev pub taking_draws : Kind → ℕ
taking_draws Queue = 0
taking_draws Stack = 0
taking_draws Deque = 1
taking_draws Dict = 1
taking_draws Pq = 0

-- line `number`, from a state on: the first draw says what it asks for, and the second one when
abbrev pub line_of : Kind → ℕ → ℕ → Line
line_of kind number state =
    if nat_le (first_draw state % 10) 4 then Insert (second_draw state % 1000000) (adding_op kind (state_after 2 state))
    else (if nat_le (first_draw state % 10) 6 then Insert (second_draw state % 1000000) (taking_op kind (state_after 2 state))
    else (if first_draw state % 10 == 7 then Delete (1 + second_draw state % number)
    else (if first_draw state % 10 == 8 then AskMain (second_draw state % 1000000)
    else AskSize)))

-- the state after it
abbrev pub state_later : Kind → ℕ → ℕ
state_later kind state =
    if nat_le (first_draw state % 10) 4 then state_after (adding_draws kind) (state_after 2 state)
    else (if nat_le (first_draw state % 10) 6 then state_after (taking_draws kind) (state_after 2 state)
    else (if nat_le (first_draw state % 10) 8 then state_after 2 state
    else state_after 1 state))

-- the question that a kind is asked
abbrev pub main_question : Kind → List ℕ
main_question Queue = codes "front"
main_question Stack = codes "top"
main_question Deque = codes "left"
main_question Dict = codes "succ 50"
main_question Pq = codes "min"

-- the text of a line
abbrev pub line_text : Kind → Line → List ℕ
line_text kind (Insert time op) = codes "g at " ++ (decimal time ++ (codes " " ++ op_text op))
line_text kind (Delete number) = codes "g delete #" ++ decimal number
line_text kind (AskMain time) = codes "g ask at " ++ (decimal time ++ (codes " " ++ main_question kind))
line_text kind AskSize = codes "g ask size"

-- so many lines, from a number and a state on
abbrev pub lines_from : Kind → ℕ → ℕ → ℕ → List (List ℕ)
lines_from kind zero number state = []
lines_from kind (suc more) number state =
    line_text kind (line_of kind number state) ∷ lines_from kind more (number + 1) (state_later kind state)

-- the word of a kind
abbrev pub kind_word : Kind → List ℕ
kind_word Queue = codes "queue"
kind_word Stack = codes "stack"
kind_word Deque = codes "deque"
kind_word Dict = codes "dict"
kind_word Pq = codes "pq"

-- the line that makes the timeline
abbrev pub first_line : Kind → List ℕ
first_line kind = codes "new g " ++ kind_word kind

-- the script: the timeline is made, and `lines` lines follow
unfoldable pub generated : Kind → ℕ → ℕ → List (List ℕ)
generated kind lines start = first_line kind ∷ lines_from kind lines 1 start
