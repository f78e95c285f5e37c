-- The lines of a generated script are short.
use Rattle.std.proofs.Common.{ℕ, ◌+◌, ◌<◌, ◌≤◌, ◌%◌, ◌==◌, pos, Bool, true, false, nat_le, length, decimal, arith, length-append}
use Rattle.std.specs.Prelude.{if◌then◌else◌}
use Rattle.std.specs.Fmt.{signed_decimal}
use Rattle.std.proofs.lemmas.Fmt.{length-decimal-le, length_signed_le}
use Rattle.retro_base.specs.declared.kind.Kind.{Kind}
use Rattle.retro_base.specs.declared.kind.Kind.TheVariants.{Queue, Stack, Deque, Dict, Pq}
use Rattle.retro_base.specs.declared.op.Op.{Op}
use Rattle.retro_base.specs.OpText.{op_text}
use Rattle.script_gen.specs.declared.line.Line.{Line}
use Rattle.script_gen.specs.declared.line.Line.TheVariants.{Insert}
use Rattle.script_gen.specs.Draws.{first_draw, second_draw, state_after}
use Rattle.script_gen.specs.Script.{adding_op, first_line, taking_op, line_of, line_text, main_question}

-- a number that is drawn from so many, written out
value_short : (n : ℕ) → n < 1000000 → length (signed_decimal (pos n)) ≤ 8
value_short n small = length_signed_le 7 (pos n) (omega arith) (omega arith)

number_short : (n : ℕ) → n < 10000000 → length (decimal n) ≤ 7
number_short n small = length-decimal-le 7 n (omega arith) (omega arith) (omega arith)

-- what holds of both branches
either : {A : Type 0} (test : Bool) (measure : A → ℕ) (a b : A) (most : ℕ) → measure a ≤ most → measure b ≤ most → measure (if test then a else b) ≤ most
either true measure a b most of_a of_b = of_a
either false measure a b most of_a of_b = of_b

abbrev op_length : Op → ℕ
op_length op = length (op_text op)

adding_short : (kind : Kind) (state : ℕ) → op_length (adding_op kind state) ≤ 40
adding_short Queue state = let value = value_short (first_draw state % 1000) (omega arith) in simp length-append (omega arith)
adding_short Stack state = let value = value_short (first_draw state % 1000) (omega arith) in simp length-append (omega arith)
adding_short Deque state =
    let value = value_short (second_draw state % 1000) (omega arith) in
    either (first_draw state % 2 == 0) op_length _ _ 40 (simp length-append (omega arith)) (simp length-append (omega arith))
adding_short Dict state =
    let key = value_short (first_draw state % 100) (omega arith) in
    let value = value_short (second_draw state % 1000) (omega arith) in
    simp length-append (omega arith)
adding_short Pq state = let value = value_short (first_draw state % 1000) (omega arith) in simp length-append (omega arith)

taking_short : (kind : Kind) (state : ℕ) → op_length (taking_op kind state) ≤ 40
taking_short Queue state = omega arith
taking_short Stack state = omega arith
taking_short Deque state = either (first_draw state % 2 == 0) op_length _ _ 40 (omega arith) (omega arith)
taking_short Dict state = let key = value_short (first_draw state % 100) (omega arith) in simp length-append (omega arith)
taking_short Pq state = omega arith

question_short : (kind : Kind) → length (main_question kind) ≤ 10
question_short Queue = omega arith
question_short Stack = omega arith
question_short Deque = omega arith
question_short Dict = omega arith
question_short Pq = omega arith

abbrev line_length : Kind → Line → ℕ
line_length kind line = length (line_text kind line)

insert_short : (kind : Kind) (time : ℕ) (op : Op) → time < 1000000 → op_length op ≤ 40 → line_length kind (Insert time op) ≤ 100
insert_short kind time op early short = let at = number_short time (omega arith) in simp length-append (omega arith)

pub line_is_short : (kind : Kind) (number state : ℕ) → 0 < number → number ≤ 1000000 → length (line_text kind (line_of kind number state)) ≤ 100
line_is_short kind number state some within =
    let time = number_short (second_draw state % 1000000) (omega arith) in
    let row = number_short (1 + second_draw state % number) (omega arith) in
    let question = question_short kind in
    either (nat_le (first_draw state % 10) 4) (line_length kind) _ _ 100
    (insert_short kind _ _ (omega arith) (adding_short kind (state_after 2 state)))
    (either (nat_le (first_draw state % 10) 6) (line_length kind) _ _ 100
    (insert_short kind _ _ (omega arith) (taking_short kind (state_after 2 state)))
    (either (first_draw state % 10 == 7) (line_length kind) _ _ 100 (simp length-append (omega arith))
    (either (first_draw state % 10 == 8) (line_length kind) _ _ 100 (simp length-append (omega arith)) (omega arith))))

pub first_line_is_short : (kind : Kind) → length (first_line kind) ≤ 100
first_line_is_short Queue = omega arith
first_line_is_short Stack = omega arith
first_line_is_short Deque = omega arith
first_line_is_short Dict = omega arith
first_line_is_short Pq = omega arith
