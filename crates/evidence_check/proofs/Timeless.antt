-- The times of rows have no part in what they hold, in their bridges and in the change of an edit.
use Rattle.std.proofs.Common.{◌≡◌, ℕ, zero, suc, ◌-◌, true, false, List, [], ◌∷◌, length, take, refl, sym, ap, ◌∙◌, Option, Some, None, Result, Err}
use Rattle.std.specs.Prelude.{option_map, slice_get}
use Rattle.std.specs.List.{list_all}
use Rattle.std.proofs.lemmas.List.{length-map, take-map}
use Rattle.std.proofs.lemmas.Option.{slice_get-map}
use Rattle.std.specs.Option.{option_map_or}
use Rattle.std.specs.Result.{result_err, result_unwrap_or}
use Rattle.retro_base.specs.declared.kind.Kind.TheVariants.{Pq}
use Rattle.retro_base.specs.declared.op.Op.{Op}
use Rattle.retro_base.specs.declared.op.Op.TheVariants.{Ins, DelMin}
use Rattle.retro_base.specs.declared.row.Entry.{Entry}
use Rattle.retro_base.specs.declared.row.Row.{Row}
use Rattle.retro_base.specs.Bridges.{entries_at, entries_of, first_bridge, first_bridge_among, is_among, is_bridge, last_bridge, stated_bridge, survives, survivors}
use Rattle.retro_base.specs.Changes.{change_at, change_of, first_beyond}
use Rattle.retro_base.specs.Edits.{Edit, add, cut, edited}
use Rattle.retro_base.specs.Replay.{failure, fold_rows, one_later, run}
use Rattle.retro_base.specs.State.{State, empty, step}
use Rattle.evidence_check.specs.Laws.{timeless, without_time}
use Rattle.evidence_check.proofs.Marking.{insert-map, remove-map}

-- the same edit, without the time of its row
abbrev pub timeless_edit : Edit → Edit
timeless_edit (add place row) = add place (without_time row)
timeless_edit (cut place row) = cut place (without_time row)

run_next : (o : Option State) (one two : State → Result State ℕ) → ((s : State) → one s ≡ two s)
    → option_map_or (λ next. one_later (one next)) o (Err 0) ≡ option_map_or (λ next. one_later (two next)) o (Err 0)
run_next None one two same = refl
run_next (Some s) one two same = ap one_later (same s)

pub run_timeless : (rows : List Row) (state : State) → run (timeless rows) state ≡ run rows state
unfolding fold_rows
run_timeless [] state = refl
run_timeless (row ∷ rows) state = run_next (step row state) (run (timeless rows)) (run rows) (run_timeless rows)

pub failure_timeless : (rows : List Row) → failure Pq (timeless rows) ≡ failure Pq rows
failure_timeless rows = ap (λ r. result_err r) (run_timeless rows (empty Pq))

pub survivors_timeless : (rows : List Row) → survivors (timeless rows) ≡ survivors rows
survivors_timeless rows = ap (λ r. entries_of (result_unwrap_or r (empty Pq))) (run_timeless rows (empty Pq))

entries_timeless : (rows : List Row) (place : ℕ) → entries_at (timeless rows) place ≡ entries_at rows place
entries_timeless rows place =
    ap (λ some. entries_of (result_unwrap_or (run some (empty Pq)) (empty Pq))) (take-map without_time place rows)
    ∙ ap (λ r. entries_of (result_unwrap_or r (empty Pq))) (run_timeless (take place rows) (empty Pq))

pub length_timeless : (rows : List Row) → length (timeless rows) ≡ length rows
length_timeless rows = length-map rows without_time

-- bridges
bridge_timeless : (rows : List Row) (place : ℕ) → is_bridge (timeless rows) place ≡ is_bridge rows place
bridge_timeless rows place =
    ap (λ alive. list_all (is_among alive) (entries_at (timeless rows) place)) (survivors_timeless rows)
    ∙ ap (λ held. list_all (is_among (survivors rows)) held) (entries_timeless rows place)

last_timeless : (rows : List Row) (place : ℕ) → last_bridge (timeless rows) place ≡ last_bridge rows place
last_timeless rows zero = refl
last_timeless rows (suc place) = rw (bridge_timeless rows (suc place), last_timeless rows place) refl

among_timeless : (rows : List Row) (many place : ℕ) → first_bridge_among many (timeless rows) place ≡ first_bridge_among many rows place
among_timeless rows zero place = refl
among_timeless rows (suc more) place = rw (bridge_timeless rows place, among_timeless rows more (suc place)) refl

first_timeless : (rows : List Row) (place : ℕ) → first_bridge (timeless rows) place ≡ first_bridge rows place
first_timeless rows place = ap (λ n. first_bridge_among (n - place) (timeless rows) place) (length_timeless rows) ∙ among_timeless rows (length rows - place) place

cut_stated : (rows : List Row) (op : Op) (place number time : ℕ)
    → stated_bridge (timeless rows) (cut place (record { number = number; time = 0; op = op })) ≡ stated_bridge rows (cut place (record { number = number; time = time; op = op }))
cut_stated rows (Ins key) place number time =
    let entry : Entry = record { key = key; number = number } in
    let same : survives (timeless rows) entry ≡ survives rows entry = rw (survivors_timeless rows) refl in
    elim (survives rows entry) as (λ b. survives rows entry ≡ b
    → stated_bridge (timeless rows) (cut place (record { number = number; time = 0; op = Ins key })) ≡ stated_bridge rows (cut place (record { number = number; time = time; op = Ins key }))) [
      | true ↦ λ lives. rw (same ∙ lives, lives) refl
      | false ↦ λ dead. rw (same ∙ dead, dead) (ap Some (first_timeless rows (suc place)))
    ] refl
cut_stated rows DelMin place number time = ap Some (last_timeless rows place)
cut_stated rows op place number time = refl

add_stated : (rows : List Row) (op : Op) (place number time : ℕ)
    → stated_bridge (timeless rows) (add place (record { number = number; time = 0; op = op })) ≡ stated_bridge rows (add place (record { number = number; time = time; op = op }))
add_stated rows (Ins key) place number time = ap Some (last_timeless rows place)
add_stated rows DelMin place number time = ap Some (first_timeless rows place)
add_stated rows op place number time = refl

pub stated_timeless : (rows : List Row) (edit : Edit) → stated_bridge (timeless rows) (timeless_edit edit) ≡ stated_bridge rows edit
stated_timeless rows (add place row) = add_stated rows row.op place row.number row.time
stated_timeless rows (cut place row) = cut_stated rows row.op place row.number row.time

-- edits
pub edited_timeless : (rows : List Row) (edit : Edit) → edited (timeless rows) (timeless_edit edit) ≡ timeless (edited rows edit)
edited_timeless rows (add place row) = sym (insert-map without_time place rows row)
edited_timeless rows (cut place row) = sym (remove-map without_time place rows)

pub change_timeless : (rows : List Row) (edit : Edit) → change_of Pq (timeless rows) (timeless_edit edit) ≡ change_of Pq rows edit
change_timeless rows edit =
    let after : survivors (edited (timeless rows) (timeless_edit edit)) ≡ survivors (edited rows edit) =
    ap (λ some. survivors some) (edited_timeless rows edit) ∙ survivors_timeless (edited rows edit) in
    ap (λ bridge. change_at bridge (first_beyond (survivors (edited (timeless rows) (timeless_edit edit))) (survivors (timeless rows)))
    (first_beyond (survivors (timeless rows)) (survivors (edited (timeless rows) (timeless_edit edit))))) (stated_timeless rows edit)
    ∙ ap (λ more. change_at (stated_bridge rows edit) (first_beyond more (survivors (timeless rows))) (first_beyond (survivors (timeless rows)) more)) after
    ∙ ap (λ held. change_at (stated_bridge rows edit) (first_beyond (survivors (edited rows edit)) held) (first_beyond held (survivors (edited rows edit)))) (survivors_timeless rows)

pub get_timeless : (rows : List Row) (place : ℕ) (row : Row) → slice_get rows place ≡ Some row → slice_get (timeless rows) place ≡ Some (without_time row)
get_timeless rows place row there = slice_get-map without_time rows place ∙ ap (option_map without_time) there
