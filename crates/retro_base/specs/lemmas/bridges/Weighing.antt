-- The weights up to a place count the dead entries that are held there: a row that adds a dead entry puts one more on the
-- heap, a row that takes takes a dead one off it, and the survivors count for nothing. A bridge is where the count is 0.
--
--     ins 4, ins 2, delmin, delmin, ins 3    weigh  1, 1, -1, -1, 0
--     the sums are  0 1 2 1 0 0              and the places 0, 4 and 5 are bridges
use Rattle.std.proofs.Common.{◌≡◌, ℕ, ℤ, pos, negsuc, ◌+◌, ◌+ℤ◌, not, true, false, List, [], ◌∷◌, ◌++◌, take, drop, refl, ap, sym, ◌∙◌, arith, cond, Option, Some, None}
use Rattle.std.specs.Prelude.{◌↔◌, ◌≤ℤ◌, count_by, Contains}
use Rattle.std.specs.List.{fold, AllByRecursion}
use Rattle.std.proofs.lemmas.Int.{ints}
use Rattle.std.proofs.lemmas.List.Sums.{sum_by-cons}
use Rattle.retro_base.specs.declared.row.Entry.{Entry}
use Rattle.retro_base.specs.declared.row.Row.{Row}
use Rattle.retro_base.specs.State.{comes_before, with_entry}
use Rattle.retro_base.specs.Bridges.{entries_at, survivors, IsBridge, is_among}
use Rattle.retro_base.specs.Weights.{added_by, weight_as, sum_of_weights, dead_at}
use Rattle.retro_base.specs.Carried.{IsPqHistory}
use Rattle.retro_base.specs.lemmas.bridges.Entries.{In, contains_in, in_contains}
use Rattle.retro_base.specs.lemmas.bridges.Tests.{in_is_among, is_among_in, not_among}
use Rattle.retro_base.specs.lemmas.bridges.Moves.{Leads, Ready, ready_added, ready_taken, taken_for_good, leads_both}
use Rattle.retro_base.specs.lemmas.bridges.Histories.{moves_of, history_at, whole_ready}

-- one for a dead entry, and how many of these are dead
abbrev mark : List Entry → Entry → ℕ
mark alive e = cond (not (is_among alive e)) 1 0

abbrev dead_of : List Entry → List Entry → ℕ
dead_of alive held = count_by (λ e. not (is_among alive e)) held

dead_cons : (alive : List Entry) (x : Entry) (xs : List Entry) → dead_of alive (x ∷ xs) ≡ mark alive x + dead_of alive xs
dead_cons alive x xs = sum_by-cons (mark alive) x xs

dead_later : (total m n d rest whole : ℕ) → total ≡ m + rest → rest ≡ n + d → whole ≡ m + d → total ≡ n + whole
dead_later total m n d rest whole first second third = omega arith

dead_with : (alive : List Entry) (e : Entry) (xs : List Entry) → dead_of alive (with_entry e xs) ≡ mark alive e + dead_of alive xs
dead_with alive e [] = dead_cons alive e []
dead_with alive e (x ∷ xs) =
    elim (comes_before e x) as (λ b. dead_of alive (cond b (e ∷ x ∷ xs) (x ∷ with_entry e xs)) ≡ mark alive e + dead_of alive (x ∷ xs)) [
      | true ↦ dead_cons alive e (x ∷ xs)
      | false ↦ dead_later _ (mark alive x) (mark alive e) _ _ _ (dead_cons alive x (with_entry e xs)) (dead_with alive e xs) (dead_cons alive x xs)
    ]

weight_is_mark : (alive : List Entry) (e : Entry) → weight_as alive (Some e) ≡ pos (mark alive e)
weight_is_mark alive e = elim (is_among alive e) as (λ b. cond b (pos 0) (pos 1) ≡ pos (cond (not b) 1 0)) [ true ↦ refl | false ↦ refl ]

dead_mark : (alive : List Entry) (x : Entry) → ¬ In x alive → mark alive x ≡ 1
dead_mark alive x died = ap (λ b. cond (not b) 1 0) (not_among x alive died)

-- a step of the sum: what is put on and what is taken off
step_on : (f z w : ℤ) (a b d e : ℕ) → f +ℤ pos a ≡ (z +ℤ w) +ℤ pos e → w ≡ pos d → a ≡ d + b → f +ℤ pos b ≡ z +ℤ pos e
step_on f z w a b d e rest weighs counts = omega (arith, ints)

step_off : (f z : ℤ) (a b d e : ℕ) → f +ℤ pos a ≡ (z +ℤ negsuc 0) +ℤ pos e → d ≡ 1 → b ≡ d + a → f +ℤ pos b ≡ z +ℤ pos e
step_off f z a b d e rest one counts = omega (arith, ints)

abbrev weigh : List Entry → ℤ → List Row → ℤ
weigh alive sum rows = fold (λ sum row. sum +ℤ weight_as alive (added_by row)) sum rows

-- the sum over some rows, where the others lead on to the survivors
weighed_by : (m : Option Entry) (alive : List Entry) (rows : List Row) (others : List (Option Entry)) (held end : List Entry) (z : ℤ)
    → ((before : List Entry) (y : ℤ) → Ready before (moves_of rows ++ others) → Leads (moves_of rows) before end
    → weigh alive y rows +ℤ pos (dead_of alive before) ≡ y +ℤ pos (dead_of alive end))
    → Ready held (m ∷ (moves_of rows ++ others)) → Leads (m ∷ moves_of rows) held end → Leads others end alive
    → weigh alive (z +ℤ weight_as alive m) rows +ℤ pos (dead_of alive held) ≡ z +ℤ pos (dead_of alive end)
weighed_by (Some e) alive rows others held end z rest ready leads on =
    step_on _ z _ _ _ (mark alive e) _ (rest (with_entry e held) (z +ℤ weight_as alive (Some e)) (ready_added e (moves_of rows ++ others) held ready) leads)
    (weight_is_mark alive e) (dead_with alive e held)
weighed_by None alive rows others [] end z rest ready leads on = absurd leads
weighed_by None alive rows others (x ∷ held) end z rest ready leads on =
    let died : ¬ In x alive = taken_for_good x (moves_of rows ++ others) held alive ready (leads_both (moves_of rows) others held end alive leads on) in
    step_off _ z _ _ (mark alive x) _ (rest held (z +ℤ negsuc 0) (ready_taken x (moves_of rows ++ others) held ready) leads)
    (dead_mark alive x died) (dead_cons alive x held)

weighed : (alive : List Entry) (rows : List Row) (others : List (Option Entry)) (held end : List Entry) (z : ℤ)
    → Ready held (moves_of rows ++ others) → Leads (moves_of rows) held end → Leads others end alive
    → weigh alive z rows +ℤ pos (dead_of alive held) ≡ z +ℤ pos (dead_of alive end)
weighed alive [] others held end z ready leads on = ap (λ l. z +ℤ pos (dead_of alive l)) leads
weighed alive (row ∷ rows) others held end z ready leads on =
    weighed_by (added_by row) alive rows others held end z (λ before y prepared way. weighed alive rows others before end y prepared way on) ready leads on

from_nothing : (f : ℤ) (n : ℕ) → f +ℤ pos 0 ≡ pos 0 +ℤ pos n → f ≡ pos n
from_nothing f n sum = omega (arith, ints)

pub weights_count : (rows : List Row) (place : ℕ) → IsPqHistory rows → sum_of_weights rows place ≡ pos (dead_at rows place)
weights_count rows place history =
    let parts = history_at rows place history in
    let sum = weighed (survivors rows) (take place rows) (moves_of (drop place rows)) [] (entries_at rows place) (pos 0)
    (whole_ready rows place history) parts.first parts.second in
    from_nothing _ _ sum

pub sum_not_negative : (rows : List Row) (place : ℕ) → IsPqHistory rows → pos 0 ≤ℤ sum_of_weights rows place
sum_not_negative rows place history = rw (weights_count rows place history) (omega (arith, ints))

-- none of these is dead exactly where all of them are among the survivors
none_dead : (alive held : List Entry) → AllByRecursion (Contains alive) held → dead_of alive held ≡ 0
none_dead alive [] all = refl
none_dead alive (x ∷ held) all =
    let lives : mark alive x ≡ 0 = ap (λ b. cond (not b) 1 0) (in_is_among x alive (contains_in alive x all.0)) in
    omega (arith, dead_cons alive x held, lives, none_dead alive held all.1)

all_alive : (alive held : List Entry) → dead_of alive held ≡ 0 → AllByRecursion (Contains alive) held
all_alive alive [] none = tt
all_alive alive (x ∷ held) none =
    elim (is_among alive x) as (λ b. is_among alive x ≡ b → cond (not b) 1 0 + dead_of alive held ≡ 0 → AllByRecursion (Contains alive) (x ∷ held)) [
      | true ↦ λ among rest. (in_contains alive x (is_among_in x alive among), all_alive alive held (omega arith))
      | false ↦ λ dead rest. absurd (omega arith)
    ] refl (sym (dead_cons alive x held) ∙ none)

zero_of : (z : ℤ) (n : ℕ) → z ≡ pos n → z ≡ pos 0 → n ≡ 0
zero_of z n e f = omega (arith, ints)

pub bridge_is_zero : (rows : List Row) (place : ℕ) → IsPqHistory rows → IsBridge rows place ↔ (sum_of_weights rows place ≡ pos 0)
bridge_is_zero rows place history =
    let count = weights_count rows place history in (
      λ bridge. count ∙ ap (λ n. pos n) (none_dead (survivors rows) (entries_at rows place) bridge),
      λ zero. all_alive (survivors rows) (entries_at rows place) (zero_of _ _ count zero),
    )
