-- The number of entries that are at most a given one, along a replay.
use Rattle.std.proofs.Common.{◌≡◌, ℕ, zero, suc, ◌+◌, ◌-◌, Bool, true, false, not, cond, List, [], ◌∷◌, take, length, slice_get, refl, sym, ap, ◌∙◌, arith, Option, Some, None, Ok}
use Rattle.std.specs.Prelude.{filter}
use Rattle.std.specs.List.{AllByRecursion}
use Rattle.std.specs.Result.{result_err, result_unwrap_or}
use Rattle.fates.specs.AtMost.{AtMostIsCounted, counted_on, is_at_most}
use Rattle.retro_base.specs.declared.op.Op.{Op}
use Rattle.retro_base.specs.declared.op.Op.TheVariants.{Enq, Deq, Push, Pop, PushL, PushR, PopL, PopR, Put, Del, Ins, DelMin}
use Rattle.retro_base.specs.declared.row.Entry.{Entry}
use Rattle.retro_base.specs.declared.row.Row.{Row}
use Rattle.retro_base.specs.Bridges.{entries_at, entries_of}
use Rattle.retro_base.specs.EntriesInOrder.{AreInOrder}
use Rattle.retro_base.specs.Replay.{fold_rows, run}
use Rattle.retro_base.specs.State.{State, comes_before, entries, perform, step, with_entry}
use Rattle.retro_base.specs.lemmas.EntrySteps.{in_order_with}
use Rattle.retro_base.specs.lemmas.bridges.EntryOrder.{before_later}
use Rattle.retro_base.specs.Facts.{some_is}
use Rattle.retro_base.specs.Outcomes.{earlier_none}

-- how many of the entries are at most this one
abbrev count : Entry → List Entry → ℕ
count most es = length (filter (is_at_most most) es)

-- one entry more
first_counted : (new : Bool) (e : Entry) (counted : List Entry) → length (cond new (e ∷ counted) counted) ≡ cond new (length counted + 1) (length counted)
first_counted true e counted = omega arith
first_counted false e counted = refl

later_counted : (own new : Bool) (x : Entry) (after counted : List Entry) → length after ≡ cond new (length counted + 1) (length counted)
    → length (cond own (x ∷ after) after) ≡ cond new (length (cond own (x ∷ counted) counted) + 1) (length (cond own (x ∷ counted) counted))
later_counted true true x after counted more = omega (arith, more)
later_counted true false x after counted more = omega (arith, more)
later_counted false new x after counted more = more

count_with : (most e : Entry) (es : List Entry) → count most (with_entry e es) ≡ cond (is_at_most most e) (count most es + 1) (count most es)
count_with most e [] = first_counted (is_at_most most e) e []
count_with most e (x ∷ xs) =
    elim (comes_before e x) as (λ b. count most (cond b (e ∷ x ∷ xs) (x ∷ with_entry e xs)) ≡ cond (is_at_most most e) (count most (x ∷ xs) + 1) (count most (x ∷ xs))) [
      | true ↦ first_counted (is_at_most most e) e (filter (is_at_most most) (x ∷ xs))
      | false ↦ later_counted (is_at_most most x) (is_at_most most e) x (filter (is_at_most most) (with_entry e xs)) (filter (is_at_most most) xs) (count_with most e xs)
    ]

none_counted : (most x : Entry) (xs : List Entry) → comes_before most x ≡ true → AllByRecursion (λ y. comes_before y x ≡ false) xs → filter (is_at_most most) xs ≡ []
none_counted most x [] first later = refl
none_counted most x (y ∷ ys) first later = rw (before_later most x y first later.0) (none_counted most x ys first later.1)

least_gone : (most x : Entry) (xs : List Entry) → AreInOrder (x ∷ xs) → count most xs ≡ count most (x ∷ xs) - 1
least_gone most x xs order =
    elim (comes_before most x) as (λ b. comes_before most x ≡ b
    → count most xs ≡ length (cond (not b) (x ∷ filter (is_at_most most) xs) (filter (is_at_most most) xs)) - 1) [
      | true ↦ λ first. rw (none_counted most x xs first order.0) refl
      | false ↦ λ later. omega arith
    ] refl

-- one row
record StepsOn (most : Entry) (op : Op) (number : ℕ) (es : List Entry) (state : State) : Type 0 where
  after : List Entry
  is : state ≡ entries after
  order : AreInOrder after
  counts : count most after ≡ counted_on most (count most es) number op

steps_on : (most : Entry) (op : Op) (number : ℕ) (es : List Entry) (state : State) → AreInOrder es → perform op number (entries es) ≡ Some state
    → StepsOn most op number es state
unfolding perform
steps_on most (Ins k) number es state order e =
    let new : Entry = record { key = k; number = number } in
    record { after = with_entry new es; is = some_is state _ e; order = in_order_with new es order; counts = count_with most new es }
steps_on most DelMin number [] state order e = absurd (cc)
steps_on most DelMin number (x ∷ xs) state order e =
    record { after = xs; is = some_is state _ e; order = order.1; counts = least_gone most x xs order }
steps_on most (Enq v) number es state order e = absurd (cc)
steps_on most Deq number es state order e = absurd (cc)
steps_on most (Push v) number es state order e = absurd (cc)
steps_on most Pop number es state order e = absurd (cc)
steps_on most (PushL v) number es state order e = absurd (cc)
steps_on most (PushR v) number es state order e = absurd (cc)
steps_on most PopL number es state order e = absurd (cc)
steps_on most PopR number es state order e = absurd (cc)
steps_on most (Put k v) number es state order e = absurd (cc)
steps_on most (Del k) number es state order e = absurd (cc)

-- the entries in front of a row, and what it makes of them
record ComesOn (rows : List Row) (es : List Entry) (place : ℕ) (row : Row) : Type 0 where
  held : List Entry
  next : State
  order : AreInOrder held
  goes : step row (entries held) ≡ Some next
  now : run (take place rows) (entries es) ≡ Ok (entries held)
  then : run (take (suc place) rows) (entries es) ≡ Ok next

later_goes : (first : Row) (es after : List Entry) (rows : List Row) → step first (entries es) ≡ Some (entries after)
    → result_err (run (first ∷ rows) (entries es)) ≡ None → result_err (run rows (entries after)) ≡ None
unfolding fold_rows
later_goes first es after rows goes valid = earlier_none (run rows (entries after)) (rw goes at valid)

later_run : (first : Row) (es after : List Entry) (rows : List Row) (state : State) → step first (entries es) ≡ Some (entries after)
    → run rows (entries after) ≡ Ok state → run (first ∷ rows) (entries es) ≡ Ok state
unfolding fold_rows
later_run first es after rows state goes is = rw (goes, is) refl

comes_on : (most : Entry) (rows : List Row) (es : List Entry) (place : ℕ) (row : Row) → AreInOrder es → result_err (run rows (entries es)) ≡ None
    → slice_get rows place ≡ Some row → ComesOn rows es place row
unfolding fold_rows
comes_on most [] es place row order valid there = absurd (cc)
comes_on most (first ∷ rows) es zero row order valid there =
    let same : first ≡ row = sym (some_is row first there) in
    elim (step first (entries es)) as (λ o. step first (entries es) ≡ o → ComesOn (first ∷ rows) es zero row) [
      | None ↦ λ stops. let wrong : ◌≡◌ {A = Option ℕ} (Some 0) None = rw stops at valid in absurd (cc)
      | Some next ↦ λ goes. record { held = es; next = next; order = order; goes = rw same at goes; now = refl; then = rw goes refl }
    ] refl
comes_on most (first ∷ rows) es (suc place) row order valid there =
    elim (step first (entries es)) as (λ o. step first (entries es) ≡ o → ComesOn (first ∷ rows) es (suc place) row) [
      | None ↦ λ stops. let wrong : ◌≡◌ {A = Option ℕ} (Some 0) None = rw stops at valid in absurd (cc)
      | Some next ↦ λ goes.
          let on = steps_on most first.op first.number es next order goes in
          let goes_on : step first (entries es) ≡ Some (entries on.after) = goes ∙ ap (λ s. Some s) on.is in
          let more = comes_on most rows on.after place row on.order (later_goes first es on.after rows goes_on valid) there in
          record {
            held = more.held;
            next = more.next;
            order = more.order;
            goes = more.goes;
            now = later_run first es on.after (take place rows) (entries more.held) goes_on more.now;
            then = later_run first es on.after (take (suc place) rows) more.next goes_on more.then;
          }
    ] refl

pub at_most_counted : AtMostIsCounted
at_most_counted most rows place row replayable there =
    let on = comes_on most rows [] place row tt replayable.valid there in
    let on_row = steps_on most row.op row.number on.held on.next on.order on.goes in
    let now : entries_at rows place ≡ on.held = ap (λ r. entries_of (result_unwrap_or r (entries []))) on.now in
    let then : entries_at rows (suc place) ≡ on_row.after = ap (λ r. entries_of (result_unwrap_or r (entries []))) (on.then ∙ ap (λ s. Ok s) on_row.is) in
    rw (now, then) on_row.counts
