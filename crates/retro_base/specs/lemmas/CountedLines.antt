-- Of the kinds whose state is a line of items, the number of items decides which row fails first.
use Rattle.std.proofs.Common.{◌≡◌, ℕ, ℤ, ◌-◌, ◌≤◌, List, [], ◌∷◌, ◌++◌, length, take, sym, IsSome, refl, ap, arith, length-append, length-take, Some, Ok, ◌∙◌}
use Rattle.std.specs.Option.{option_map}
use Rattle.std.specs.Result.{result_err}
use Rattle.std.specs.List.{AllByRecursion}
use Rattle.retro_base.specs.declared.counting.Quantity.TheVariants.{Items}
use Rattle.retro_base.specs.declared.kind.Kind.{Kind}
use Rattle.retro_base.specs.declared.kind.Kind.TheVariants.{Queue, Stack, Deque, Dict, Pq}
use Rattle.retro_base.specs.declared.op.Op.{Op}
use Rattle.retro_base.specs.declared.op.Op.TheVariants.{Enq, Deq, Push, Pop, PushL, PushR, PopL, PopR}
use Rattle.retro_base.specs.declared.row.Row.{Row}
use Rattle.retro_base.specs.Kind.{kind_of}
use Rattle.retro_base.specs.State.{State, items, perform, without_last}
use Rattle.retro_base.specs.Replay.{run}
use Rattle.retro_base.specs.Counting.{size_after, one_fewer, counted}
use Rattle.retro_base.specs.lemmas.CountedSizes.{Has, first_taken, failure_counted, few_made}
use Rattle.retro_base.specs.lemmas.Folds.{BothOrNeither}

-- the kinds whose state is a line of items
abbrev pub IsLine : Kind → Type 0
IsLine Queue = Unit {0}
IsLine Stack = Unit {0}
IsLine Deque = Unit {0}
IsLine Dict = ⊥
IsLine Pq = ⊥

-- taking the last item leaves the others
pub last_out : (xs ys : List ℤ) → IsSome (option_map items (without_last xs)) → ys ≡ take (length xs - 1) xs → option_map items (without_last xs) ≡ Some (items ys)
last_out [] ys some e = absurd (cc)
last_out (x ∷ xs) ys some e = ap (λ zs. Some (items zs)) (ap (λ n. take n (x ∷ xs)) (omega arith) ∙ sym e)

last_taken : (xs : List ℤ) → BothOrNeither (Has items) (option_map items (without_last xs)) (one_fewer (length xs))
last_taken [] = tt
last_taken (x ∷ xs) = (take (length xs) (x ∷ xs), refl, omega (arith, length-take (length xs) (x ∷ xs)))

line_keeps_pace : (op : Op) (number : ℕ) (xs : List ℤ) → IsLine (kind_of op) → BothOrNeither (Has items) (perform op number (items xs)) (size_after op (length xs))
unfolding perform
line_keeps_pace (Enq v) n xs h = (xs ++ v ∷ [], refl, omega (arith, length-append xs (v ∷ [])))
line_keeps_pace Deq n xs h = first_taken items xs
line_keeps_pace (Push v) n xs h = (v ∷ xs, refl, refl)
line_keeps_pace Pop n xs h = first_taken items xs
line_keeps_pace (PushL v) n xs h = (v ∷ xs, refl, refl)
line_keeps_pace (PushR v) n xs h = (xs ++ v ∷ [], refl, omega (arith, length-append xs (v ∷ [])))
line_keeps_pace PopL n xs h = first_taken items xs
line_keeps_pace PopR n xs h = last_taken xs
line_keeps_pace op n xs h = absurd h

-- which row fails first is found by counting
pub line_failure : (rows : List Row) → AllByRecursion (λ row. IsLine (kind_of row.op)) rows
    → result_err (run rows (items [])) ≡ result_err (counted Items rows 0)
line_failure rows all = failure_counted items (λ op. IsLine (kind_of op)) line_keeps_pace rows all

-- each row adds at most one item
pub line_few : (rows : List Row) (state : State) → AllByRecursion (λ row. IsLine (kind_of row.op)) rows → run rows (items []) ≡ Ok state
    → (xs : List ℤ) × (state ≡ items xs) × (length xs ≤ length rows)
line_few rows state all e = few_made items (λ op. IsLine (kind_of op)) line_keeps_pace rows state all e
