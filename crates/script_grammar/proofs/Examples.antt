-- Lines whose commands were worked out by hand, computed from the grammar.
use Rattle.std.proofs.Common.{◌≡◌, [], true, false, pos, negsuc, refl}
use Rattle.std.specs.Prelude.{Ok, Err, Some, None, codes}
use Rattle.retro_base.specs.Name.{is_name}
use Rattle.retro_base.specs.declared.kind.Kind.TheVariants.{Queue, Dict, Pq}
use Rattle.retro_base.specs.declared.op.Op.TheVariants.{Enq, Deq, Put, DelMin}
use Rattle.retro_base.specs.declared.question.Question.TheVariants.{Size, Min, Nth, Succ, Sum}
use Rattle.script_grammar.specs.declared.command.Command.TheVariants.{Nothing, New, Insert, Delete, Move, Change, Fate, Ask, Mute, Header}
use Rattle.script_grammar.specs.declared.command.Spot.TheVariants.{At, Before, After}
use Rattle.script_grammar.specs.declared.command.Moment.TheVariants.{Now, Then}
use Rattle.script_grammar.specs.declared.command.Query.TheVariants.{One, All}
use Rattle.script_grammar.specs.declared.command.LineError.TheVariants.{Syntax}
use Rattle.script_grammar.specs.Words.{words}
use Rattle.script_grammar.specs.Numbers.{count_of, follower_of, index_of, next_of, row_number_of, time_of, value_of}
use Rattle.script_grammar.specs.Command.{command}

new_queue : command (codes "new q queue") ≡ Ok (New (codes "q") Queue false)
unfolding command words is_name
new_queue = refl

new_dict : command (codes "new d dict") ≡ Ok (New (codes "d") Dict false)
unfolding command words is_name
new_dict = refl

new_pq : command (codes "new p pq") ≡ Ok (New (codes "p") Pq false)
unfolding command words is_name
new_pq = refl

new_fused : command (codes "new p pqf") ≡ Ok (New (codes "p") Pq true)
unfolding command words is_name
new_fused = refl

-- `pqf` is no kind of a header
header_fused : command (codes "timeline r pqf next 1") ≡ Err Syntax
unfolding command words is_name
header_fused = refl

mutes : command (codes "mute 04294967295") ≡ Ok (Mute 4294967295)
unfolding command words follower_of
mutes = refl

mutes_past_range : command (codes "mute 4294967296") ≡ Err Syntax
unfolding command words follower_of
mutes_past_range = refl

mutes_nobody : command (codes "mute") ≡ Err Syntax
unfolding command words
mutes_nobody = refl

-- spaces in rows, a leading zero and a negative zero
put_in_at : command (codes "d  at 03 put -0 7") ≡ Ok (Insert (codes "d") (At 3) (Put (pos 0) (pos 7)))
unfolding command words is_name time_of value_of
put_in_at = refl

put_in_before : command (codes "q before #16777215 deq") ≡ Ok (Insert (codes "q") (Before 16777215) Deq)
unfolding command words is_name row_number_of
put_in_before = refl

put_in_after : command (codes "p after #007 delmin") ≡ Ok (Insert (codes "p") (After 7) DelMin)
unfolding command words is_name row_number_of
put_in_after = refl

take_out : command (codes "s delete #1") ≡ Ok (Delete (codes "s") 1)
unfolding command words is_name row_number_of
take_out = refl

move : command (codes "s move #1 at 25") ≡ Ok (Move (codes "s") 1 25)
unfolding command words is_name row_number_of time_of
move = refl

move_without_at : command (codes "s move #1 25") ≡ Err Syntax
unfolding command words is_name row_number_of
move_without_at = refl

move_before : command (codes "s move #1 before #2") ≡ Err Syntax
unfolding command words is_name row_number_of
move_before = refl

change : command (codes "d change #3 put 1 -2") ≡ Ok (Change (codes "d") 3 (Put (pos 1) (negsuc 1)))
unfolding command words is_name row_number_of value_of
change = refl

fate : command (codes "p fate #2") ≡ Ok (Fate (codes "p") 2)
unfolding command words is_name row_number_of
fate = refl

header : command (codes "timeline q queue next 3") ≡ Ok (Header (codes "q") Queue 3 None)
unfolding command words is_name next_of
header = refl

header_with_count : command (codes "timeline q queue next 3 rows 02") ≡ Ok (Header (codes "q") Queue 3 (Some 2))
unfolding command words is_name next_of count_of
header_with_count = refl

header_with_most_rows : command (codes "timeline q queue next 16777216 rows 131072") ≡ Ok (Header (codes "q") Queue 16777216 (Some 131072))
unfolding command words is_name next_of count_of
header_with_most_rows = refl

count_past_range : command (codes "timeline q queue next 3 rows 131073") ≡ Err Syntax
unfolding command words is_name next_of count_of
count_past_range = refl

rows_without_count : command (codes "timeline q queue next 3 rows") ≡ Err Syntax
unfolding command words is_name next_of
rows_without_count = refl

rows_before_next : command (codes "timeline q queue rows 2 next 3") ≡ Err Syntax
unfolding command words is_name
rows_before_next = refl

ask_now : command (codes "q ask nth 18446744073709551615") ≡ Ok (Ask (codes "q") Now (One (Nth 18446744073709551615)))
unfolding command words is_name index_of
ask_now = refl

ask_all : command (codes "q ask all") ≡ Ok (Ask (codes "q") Now All)
unfolding command words is_name
ask_all = refl

ask_at : command (codes "p ask at 5 min") ≡ Ok (Ask (codes "p") (Then (At 5)) (One Min))
unfolding command words is_name time_of
ask_at = refl

ask_before : command (codes "d ask before #2 sum 1 0") ≡ Ok (Ask (codes "d") (Then (Before 2)) (One (Sum (pos 1) (pos 0))))
unfolding command words is_name row_number_of value_of
ask_before = refl

ask_after : command (codes "d ask after #2 succ -1") ≡ Ok (Ask (codes "d") (Then (After 2)) (One (Succ (negsuc 0))))
unfolding command words is_name row_number_of value_of
ask_after = refl

-- the last time and the least value
last_of_range : command (codes "q at 18446744073709551615 enq -9223372036854775808") ≡ Ok (Insert (codes "q") (At 18446744073709551615) (Enq (negsuc 9223372036854775807)))
unfolding command words is_name time_of value_of
last_of_range = refl

time_past_range : command (codes "q at 18446744073709551616 deq") ≡ Err Syntax
unfolding command words is_name time_of
time_past_range = refl

value_past_range : command (codes "q at 1 enq 9223372036854775808") ≡ Err Syntax
unfolding command words is_name time_of value_of
value_past_range = refl

index_past_range : command (codes "q ask nth 18446744073709551616") ≡ Err Syntax
unfolding command words is_name index_of
index_past_range = refl

row_number_past_range : command (codes "q delete #16777216") ≡ Err Syntax
unfolding command words is_name row_number_of
row_number_past_range = refl

row_number_zero : command (codes "q delete #0") ≡ Err Syntax
unfolding command words is_name row_number_of
row_number_zero = refl

space_after_hash : command (codes "q delete # 1") ≡ Err Syntax
unfolding command words is_name row_number_of
space_after_hash = refl

plus_sign : command (codes "q at 1 enq +5") ≡ Err Syntax
unfolding command words is_name time_of value_of
plus_sign = refl

-- a form is read by place
named_at : command (codes "at at 1 deq") ≡ Ok (Insert (codes "at") (At 1) Deq)
unfolding command words is_name time_of
named_at = refl

named_ask : command (codes "ask ask size") ≡ Ok (Ask (codes "ask") Now (One Size))
unfolding command words is_name
named_ask = refl

reserved_name : command (codes "new end queue") ≡ Err Syntax
unfolding command words is_name
reserved_name = refl

tab_in_word : command (codes "q\task size") ≡ Err Syntax
unfolding command words is_name
tab_in_word = refl

word_too_many : command (codes "q ask size 1") ≡ Err Syntax
unfolding command words is_name value_of
word_too_many = refl

empty_line : command [] ≡ Ok Nothing
unfolding command words
empty_line = refl

only_spaces : command (codes "  ") ≡ Ok Nothing
unfolding command words
only_spaces = refl

comment : command (codes "  ;note") ≡ Ok Nothing
unfolding command words
comment = refl
