-- The definitions, computed on small histories whose answers were worked out by hand.
use Rattle.std.proofs.Common.{◌≡◌, ℕ, ℤ, pos, negsuc, true, false, List, [], ◌∷◌, map, refl, Some, None}
use Rattle.retro_base.specs.declared.kind.Kind.TheVariants.{Queue, Stack, Deque, Dict, Pq}
use Rattle.retro_base.specs.declared.op.Op.{Op}
use Rattle.retro_base.specs.declared.op.Op.TheVariants.{Enq, Deq, Push, Pop, PushL, PushR, PopR, Put, Del, Ins, DelMin}
use Rattle.retro_base.specs.declared.question.Question.TheVariants.{Front, Nth, Succ, Pred, Count, Sum, Min}
use Rattle.retro_base.specs.declared.question.Answer.TheVariants.{Number, Nothing}
use Rattle.retro_base.specs.declared.question.Answer.TheVariants as answers
use Rattle.retro_base.specs.declared.row.Change.TheVariants.{Gain, Lose}
use Rattle.retro_base.specs.declared.row.Entry.{Entry}
use Rattle.retro_base.specs.declared.row.Row.{Row}
use Rattle.retro_base.specs.State.{items, entries, perform}
use Rattle.retro_base.specs.Replay.{fold_rows, failure, present, state_at}
use Rattle.retro_base.specs.Answers.{answer_of}
use Rattle.retro_base.specs.Edits.{add, cut, edited, edited_by, inverse_step, Step, failing_row}
use Rattle.retro_base.specs.Bridges.{is_bridge, stated_bridge}
use Rattle.retro_base.specs.Changes.{change_of}
use Rattle.retro_base.specs.Weights.{sum_of_weights}
use Rattle.retro_base.specs.Places.{place_of_time, place_of_row}

abbrev row : ℕ → ℕ → Op → Row
row number time op = record { number = number; time = time; op = op }

abbrev entry : ℤ → ℕ → Entry
entry key number = record { key = key; number = number }

-- a queue, and the same with a missed `deq` put in between its rows
abbrev two_jobs : List Row
two_jobs = row 1 10 (Enq (pos 5)) ∷ row 2 20 (Enq (pos 7)) ∷ []

abbrev one_done : List Row
one_done = edited two_jobs (add (place_of_time 15 two_jobs) (row 3 15 Deq))

front_of_two : answer_of (present Queue two_jobs) Front ≡ Number (pos 5)
unfolding fold_rows perform answer_of
front_of_two = refl

front_when_one_is_done : answer_of (present Queue one_done) Front ≡ Number (pos 7)
unfolding fold_rows perform answer_of
front_when_one_is_done = refl

-- a `deq` before all items fails, as the first row
too_early : failing_row Queue (edited two_jobs (add (place_of_time 5 two_jobs) (row 3 5 Deq))) ≡ Some (row 3 5 Deq)
unfolding fold_rows perform
too_early = refl

-- a stack: a second `pop` in the middle makes the later `pop` fail, and so does taking the `push` out
abbrev pushed_and_popped : List Row
pushed_and_popped = row 1 10 (Push (pos 1)) ∷ row 2 30 Pop ∷ []

later_pop_fails : failing_row Stack (edited pushed_and_popped (add 1 (row 3 20 Pop))) ≡ Some (row 2 30 Pop)
unfolding fold_rows perform
later_pop_fails = refl

orphaned_pop_fails : failing_row Stack (edited pushed_and_popped (cut 0 (row 1 10 (Push (pos 1))))) ≡ Some (row 2 30 Pop)
unfolding fold_rows perform
orphaned_pop_fails = refl

-- a stack counts from its top
abbrev three_pushed : List Row
three_pushed = row 1 1 (Push (pos 1)) ∷ row 2 2 (Push (pos 2)) ∷ row 3 3 (Push (pos 3)) ∷ []

bottom_is_last : answer_of (present Stack three_pushed) (Nth 2) ≡ Number (pos 1)
unfolding fold_rows perform answer_of
bottom_is_last = refl

none_below_the_bottom : answer_of (present Stack three_pushed) (Nth 3) ≡ Nothing
unfolding fold_rows perform answer_of
none_below_the_bottom = refl

-- two rows at one time, and a row put before the first of them
abbrev one_time : List Row
one_time = row 3 5 (Enq (pos 3)) ∷ row 1 5 (Enq (pos 1)) ∷ row 2 5 (Enq (pos 2)) ∷ []

after_its_time : state_at Queue one_time (place_of_time 5 one_time) ≡ items (pos 3 ∷ pos 1 ∷ pos 2 ∷ [])
unfolding fold_rows perform
after_its_time = refl

before_a_row : place_of_row 1 one_time ≡ Some 1
before_a_row = refl

no_such_row : place_of_row 9 one_time ≡ None
no_such_row = refl

before_its_time : state_at Queue one_time (place_of_time 4 one_time) ≡ items []
unfolding fold_rows perform
before_its_time = refl

-- a deque: an item that comes first on the right side is the one that `popr` takes last
abbrev both_ends : List Row
both_ends = row 4 0 (PushR (pos 9)) ∷ row 1 1 (PushR (pos 1)) ∷ row 2 2 (PushL (pos 2)) ∷ row 3 3 PopR ∷ []

from_the_left : present Deque both_ends ≡ items (pos 2 ∷ pos 9 ∷ [])
unfolding fold_rows perform
from_the_left = refl

-- a dictionary with the least and the greatest key
abbrev least : ℤ
least = negsuc 9223372036854775807

abbrev greatest : ℤ
greatest = pos 9223372036854775807

abbrev both_bounds : List Row
both_bounds = row 1 1 (Put least greatest) ∷ row 2 2 (Put greatest greatest) ∷ []

sum_of_both : answer_of (present Dict both_bounds) (Sum least greatest) ≡ Number (pos 18446744073709551614)
unfolding fold_rows perform answer_of
sum_of_both = refl

next_above_zero : answer_of (present Dict both_bounds) (Succ (pos 0)) ≡ answers.Pair greatest greatest
unfolding fold_rows perform answer_of
next_above_zero = refl

next_below_zero : answer_of (present Dict both_bounds) (Pred (pos 0)) ≡ answers.Pair least greatest
unfolding fold_rows perform answer_of
next_below_zero = refl

empty_range : answer_of (present Dict both_bounds) (Count (pos 1) (pos 0)) ≡ Number (pos 0)
unfolding fold_rows perform answer_of
empty_range = refl

-- a key that is absent cannot be deleted
deleted_twice : failure Dict (row 1 1 (Put (pos 1) (pos 10)) ∷ row 2 2 (Del (pos 1)) ∷ row 3 3 (Del (pos 1)) ∷ []) ≡ Some 2
unfolding fold_rows perform
deleted_twice = refl

-- a priority queue with equal keys: the entry of the lesser row number goes first
equal_keys : present Pq (row 1 1 (Ins (pos 5)) ∷ row 2 2 (Ins (pos 5)) ∷ row 3 3 DelMin ∷ []) ≡ entries (entry (pos 5) 2 ∷ [])
unfolding fold_rows perform
equal_keys = refl

-- a priority queue whose lesser key was put in late: the earlier `delmin` takes it
abbrev late_lesser : List Row
late_lesser = row 3 5 (Ins (pos 2)) ∷ row 1 10 (Ins (pos 4)) ∷ row 2 20 DelMin ∷ []

least_now : answer_of (present Pq late_lesser) Min ≡ Number (pos 4)
unfolding fold_rows perform answer_of
least_now = refl

least_then : answer_of (state_at Pq late_lesser (place_of_time 5 late_lesser)) Min ≡ Number (pos 2)
unfolding fold_rows perform answer_of
least_then = refl

-- a row is moved by one step, and the step that takes it back leads to the rows from before it
abbrev moved_to_the_front : Step
moved_to_the_front = cut 1 (row 2 20 (Enq (pos 7))) ∷ add 0 (row 2 5 (Enq (pos 7))) ∷ []

moved : edited_by two_jobs moved_to_the_front ≡ row 2 5 (Enq (pos 7)) ∷ row 1 10 (Enq (pos 5)) ∷ []
moved = refl

moved_back : edited_by (edited_by two_jobs moved_to_the_front) (inverse_step moved_to_the_front) ≡ two_jobs
moved_back = refl

-- bridges and changes: at places 1 and 2 the queue holds the 2, which the `delmin` takes
bridges_are_the_ends : map (is_bridge late_lesser) (0 ∷ 1 ∷ 2 ∷ 3 ∷ []) ≡ true ∷ false ∷ false ∷ true ∷ []
unfolding fold_rows perform
bridges_are_the_ends = refl

-- the 2 weighs 1, since it is dead, the 4 nothing, and the `delmin` -1
sums_find_the_bridges : map (sum_of_weights late_lesser) (0 ∷ 1 ∷ 2 ∷ 3 ∷ []) ≡ pos 0 ∷ pos 1 ∷ pos 1 ∷ pos 0 ∷ []
unfolding fold_rows perform
sums_find_the_bridges = refl

-- before the 2 was put in, the `delmin` took the 4; without the 2 it takes it again
abbrev before_the_lesser : List Row
before_the_lesser = row 1 10 (Ins (pos 4)) ∷ row 2 20 DelMin ∷ []

lesser_frees_the_four : change_of Pq before_the_lesser (add 0 (row 3 5 (Ins (pos 2)))) ≡ Gain 0 (entry (pos 4) 1)
unfolding fold_rows perform
lesser_frees_the_four = refl

four_is_taken_again : change_of Pq late_lesser (cut 0 (row 3 5 (Ins (pos 2)))) ≡ Lose (Some 3) (entry (pos 4) 1)
unfolding fold_rows perform
four_is_taken_again = refl

lesser_is_never_taken : change_of Pq late_lesser (cut 2 (row 2 20 DelMin)) ≡ Gain 0 (entry (pos 2) 3)
unfolding fold_rows perform
lesser_is_never_taken = refl

-- a dead entry before the bridge stays dead
dead_nine_lies_before : change_of Pq (row 1 1 (Ins (pos 9)) ∷ row 2 2 DelMin ∷ []) (add 2 (row 3 5 (Ins (pos 3)))) ≡ Gain 2 (entry (pos 3) 3)
unfolding fold_rows perform
dead_nine_lies_before = refl

-- where an entry that survives is cut there is no bridge
survivor_is_cut : change_of Pq (row 1 1 (Ins (pos 4)) ∷ row 2 2 (Ins (pos 6)) ∷ []) (cut 0 (row 1 1 (Ins (pos 4)))) ≡ Lose None (entry (pos 4) 1)
unfolding fold_rows perform
survivor_is_cut = refl

-- one entry and one `delmin`: a second `delmin` fails at the bridge, and without the entry the first one fails
abbrev taken_late : List Row
taken_late = row 1 1 (Ins (pos 4)) ∷ row 2 3 DelMin ∷ []

bridge_of_second_take : stated_bridge taken_late (add 1 (row 3 2 DelMin)) ≡ Some 2
unfolding fold_rows perform
bridge_of_second_take = refl

second_take_fails : failure Pq (edited taken_late (add 1 (row 3 2 DelMin))) ≡ Some 2
unfolding fold_rows perform
second_take_fails = refl

bridge_of_missing_entry : stated_bridge taken_late (cut 0 (row 1 1 (Ins (pos 4)))) ≡ Some 2
unfolding fold_rows perform
bridge_of_missing_entry = refl

take_without_entry_fails : failure Pq (edited taken_late (cut 0 (row 1 1 (Ins (pos 4))))) ≡ Some 0
unfolding fold_rows perform
take_without_entry_fails = refl

-- the bridge is stated by the edit alone: here it is 0, whatever entry a line names
greater_key_survives : change_of Pq (row 1 1 (Ins (pos 1)) ∷ row 2 2 DelMin ∷ []) (add 1 (row 3 1 (Ins (pos 9)))) ≡ Gain 0 (entry (pos 9) 3)
unfolding fold_rows perform
greater_key_survives = refl
