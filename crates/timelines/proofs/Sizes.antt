-- A state holds at most one item, pair or entry for each row after which it stands.
use Rattle.std.proofs.Common.{◌≡◌, ℕ, suc, ◌+◌, ◌≤◌, ℤ, pos, Bool, true, false, Ordering, List, [], ◌∷◌, length, refl, sym, ◌∙◌, subst, arith, Option, Some, None, Result, Ok, Err, length-append, length-take}
use Rattle.std.specs.Prelude.{if◌then◌else◌, is_some}
use Rattle.std.specs.Map.{lookup, remove_entry}
use Rattle.std.specs.Option.{option_map, option_map_or}
use Rattle.std.specs.Ordering.{int_eq, match_ordering}
use Rattle.std.specs.declared.cmp.Ordering.TheVariants.{Less, Equal, Greater}
use Rattle.std.specs.Result.{result_unwrap_or}
use Rattle.retro_base.specs.declared.kind.Kind.{Kind}
use Rattle.retro_base.specs.declared.kind.Kind.TheVariants.{Queue, Stack, Deque, Dict, Pq}
use Rattle.retro_base.specs.declared.op.Op.{Op}
use Rattle.retro_base.specs.declared.op.Op.TheVariants.{Enq, Deq, Push, Pop, PushL, PushR, PopL, PopR, Put, Del, Ins, DelMin}
use Rattle.retro_base.specs.declared.question.Answer.{Answer}
use Rattle.retro_base.specs.declared.question.Answer.TheVariants.{Number}
use Rattle.retro_base.specs.declared.question.Question.TheVariants.{Size}
use Rattle.retro_base.specs.declared.row.Row.{Row}
use Rattle.retro_base.specs.Answers.{answer_of}
use Rattle.retro_base.specs.Replay.{fold_rows, one_later, present, run}
use Rattle.retro_base.specs.State.{State, items, pairs, entries, empty, perform, step, without_first, without_key, without_last}
use Rattle.retro_base.specs.lemmas.CountedEntries.{with_length}
use Rattle.reactions.specs.Bench.{size_of}
use Rattle.retro_base.specs.lemmas.CountedKeys.{put_length}

-- the answer to the question of size
pub size_answer : (state : State) → answer_of state Size ≡ Number (pos (size_of state))
unfolding answer_of
size_answer (items xs) = refl
size_answer (pairs ps) = refl
size_answer (entries es) = refl

-- a state, where there is one, holds at most so many
abbrev AtMost : ℕ → Option State → Type 0
AtMost most None = Unit {0}
AtMost most (Some state) = size_of state ≤ most

first_out : {X : Type 0} (made : List X → State) → ((xs : List X) → size_of (made xs) ≡ length xs) → (xs : List X)
    → AtMost (suc (length xs)) (option_map made (without_first xs))
first_out made measures [] = tt
first_out made measures (x ∷ xs) = omega (arith, measures xs)

last_out : (xs : List ℤ) → AtMost (suc (length xs)) (option_map items (without_last xs))
last_out [] = tt
last_out (x ∷ xs) = omega (arith, length-take (length xs) (x ∷ xs))

-- whatever an order decides
by_order : (order : Ordering) (before here after : List (ℤ × ℤ)) (most : ℕ) → length before ≤ most → length here ≤ most → length after ≤ most
    → length (match_ordering order before here after) ≤ most
by_order Less before here after most b h l = b
by_order Equal before here after most b h l = h
by_order Greater before here after most b h l = l

without : (test : ℤ → Bool) (ps : List (ℤ × ℤ)) → length (remove_entry test ps) ≤ length ps
without test [] = omega arith
without test (pair ∷ ps) =
    let rest = without test ps in
    elim (test pair.0) as (λ found. length (if found then ps else pair ∷ remove_entry test ps) ≤ suc (length ps)) [
      | true ↦ omega arith
      | false ↦ omega (arith, rest)
    ]

if_found : (found : Bool) (ps : List (ℤ × ℤ)) (most : ℕ) → length ps ≤ most → AtMost most (option_map pairs (if found then Some ps else None))
if_found true ps most few = few
if_found false ps most few = tt

key_out : (key : ℤ) (ps : List (ℤ × ℤ)) → AtMost (suc (length ps)) (option_map pairs (without_key key ps))
key_out key ps =
    let fewer = without (int_eq key) ps in
    if_found (is_some (lookup (int_eq key) ps)) (remove_entry (int_eq key) ps) (suc (length ps)) (omega (arith, fewer))

-- an operation adds at most one
perform_grows : (op : Op) (number : ℕ) (state : State) → AtMost (suc (size_of state)) (perform op number state)
unfolding perform
perform_grows (Enq value) number (items xs) = omega (arith, length-append xs (value ∷ []))
perform_grows (Enq value) number (pairs ps) = tt
perform_grows (Enq value) number (entries es) = tt
perform_grows Deq number (items xs) = first_out items (λ _. refl) xs
perform_grows Deq number (pairs ps) = tt
perform_grows Deq number (entries es) = tt
perform_grows (Push value) number (items xs) = omega arith
perform_grows (Push value) number (pairs ps) = tt
perform_grows (Push value) number (entries es) = tt
perform_grows Pop number (items xs) = first_out items (λ _. refl) xs
perform_grows Pop number (pairs ps) = tt
perform_grows Pop number (entries es) = tt
perform_grows (PushL value) number (items xs) = omega arith
perform_grows (PushL value) number (pairs ps) = tt
perform_grows (PushL value) number (entries es) = tt
perform_grows (PushR value) number (items xs) = omega (arith, length-append xs (value ∷ []))
perform_grows (PushR value) number (pairs ps) = tt
perform_grows (PushR value) number (entries es) = tt
perform_grows PopL number (items xs) = first_out items (λ _. refl) xs
perform_grows PopL number (pairs ps) = tt
perform_grows PopL number (entries es) = tt
perform_grows PopR number (items xs) = last_out xs
perform_grows PopR number (pairs ps) = tt
perform_grows PopR number (entries es) = tt
perform_grows (Put key value) number (items xs) = tt
perform_grows (Put key value) number (pairs ps) = put_length key value ps
perform_grows (Put key value) number (entries es) = tt
perform_grows (Del key) number (items xs) = tt
perform_grows (Del key) number (pairs ps) = key_out key ps
perform_grows (Del key) number (entries es) = tt
perform_grows (Ins key) number (items xs) = tt
perform_grows (Ins key) number (pairs ps) = tt
perform_grows (Ins key) number (entries es) = omega (arith, with_length (record { key = key; number = number }) es)
perform_grows DelMin number (items xs) = tt
perform_grows DelMin number (pairs ps) = tt
perform_grows DelMin number (entries es) = first_out entries (λ _. refl) es

-- so do rows, one for each
abbrev OkAtMost : ℕ → Result State ℕ → Type 0
OkAtMost most (Ok state) = size_of state ≤ most
OkAtMost most (Err index) = Unit {0}

later : (most : ℕ) (outcome : Result State ℕ) → OkAtMost most outcome → OkAtMost most (one_later outcome)
later most (Ok state) few = few
later most (Err index) few = tt

more : (few many : ℕ) (outcome : Result State ℕ) → few ≤ many → OkAtMost few outcome → OkAtMost many outcome
more few many (Ok state) less at_most = omega arith
more few many (Err index) less at_most = tt

step_grows : (state : State) (rows : List Row) (next : Option State) → AtMost (suc (size_of state)) next
    → ((from : State) → OkAtMost (size_of from + length rows) (run rows from))
    → OkAtMost (size_of state + suc (length rows)) (option_map_or (λ next. one_later (run rows next)) next (Err 0))
step_grows state rows None few grows = tt
step_grows state rows (Some next) few grows =
    later (size_of state + suc (length rows)) (run rows next)
    (more (size_of next + length rows) (size_of state + suc (length rows)) (run rows next) (omega (arith, few)) (grows next))

run_grows : (rows : List Row) (state : State) → OkAtMost (size_of state + length rows) (run rows state)
unfolding fold_rows
run_grows [] state = omega arith
run_grows (row ∷ rows) state = step_grows state rows (step row state) (perform_grows row.op row.number state) (run_grows rows)

after : (kind : Kind) (most : ℕ) (outcome : Result State ℕ) → OkAtMost most outcome → size_of (result_unwrap_or outcome (empty kind)) ≤ most
after kind most (Ok state) few = few
after Queue most (Err index) few = omega arith
after Stack most (Err index) few = omega arith
after Deque most (Err index) few = omega arith
after Dict most (Err index) few = omega arith
after Pq most (Err index) few = omega arith

none : (kind : Kind) → size_of (empty kind) ≡ 0
none Queue = refl
none Stack = refl
none Deque = refl
none Dict = refl
none Pq = refl

-- what a timeline holds is no more than its rows
pub size-le : (kind : Kind) (rows : List Row) → size_of (present kind rows) ≤ length rows
size-le kind rows =
    let all : size_of (empty kind) + length rows ≡ length rows = omega (arith, none kind) in
    after kind (length rows) (run rows (empty kind)) (subst (λ n. OkAtMost n (run rows (empty kind))) all (run_grows rows (empty kind)))

-- what is answered to the question of size
pub counted : (kind : Kind) (rows : List Row) (answer : Answer) (value : ℤ) → answer ≡ answer_of (present kind rows) Size → answer ≡ Number value
    → value ≡ pos (size_of (present kind rows))
counted kind rows answer value answered is =
    let same : Number value ≡ Number (pos (size_of (present kind rows))) = sym is ∙ answered ∙ size_answer (present kind rows) in
    cc

-- and it is a number
pub is_number : (kind : Kind) (rows : List Row) (answer : Answer) → answer ≡ answer_of (present kind rows) Size → answer ≡ Number (pos (size_of (present kind rows)))
is_number kind rows answer answered = answered ∙ size_answer (present kind rows)
