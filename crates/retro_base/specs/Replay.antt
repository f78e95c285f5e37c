-- Every answer is that of performing the rows in order, from the first one on: the replay of
-- Demaine, Iacono and Langerman, "Retroactive Data Structures", section 2.
use Rattle.std.specs.Prelude.{◌≡◌, ℕ, suc, List, [], ◌∷◌, take}
use Rattle.std.specs.Prelude.{Option, None, Result, Ok, Err}
use Rattle.std.specs.Option.{option_map_or}
use Rattle.std.specs.Result.{result_err, result_unwrap_or}
use Rattle.retro_base.specs.declared.kind.Kind.{Kind}
use Rattle.retro_base.specs.declared.row.Row.{Row}
use Rattle.retro_base.specs.State.{State, empty, step}

-- the outcome of rows that stand after one more row: a failure is one place later
abbrev pub one_later : {S : Type 0} → Result S ℕ → Result S ℕ
one_later (Ok state) = Ok state
one_later (Err index) = Err (suc index)

-- rows taken one after another by a step that may be impossible: the state after them, or the index of the first impossible one
unfoldable pub fold_rows : {S : Type 0} → (Row → S → Option S) → List Row → S → Result S ℕ
fold_rows next_of [] state = Ok state
fold_rows next_of (row ∷ rows) state = option_map_or (λ next. one_later (fold_rows next_of rows next)) (next_of row state) (Err 0)

-- performing these rows from a state on
abbrev pub run : List Row → State → Result State ℕ
run rows state = fold_rows step rows state

-- the replay of the first rows of a timeline, up to a place
abbrev pub replay : Kind → List Row → ℕ → Result State ℕ
replay kind rows place = run (take place rows) (empty kind)

-- the index of the first row that cannot be performed
abbrev pub failure : Kind → List Row → Option ℕ
failure kind rows = result_err (run rows (empty kind))

-- the rows replay whole
abbrev pub IsValid : Kind → List Row → Type 0
IsValid kind rows = failure kind rows ≡ None

-- what the structure holds at a place of rows that replay whole
abbrev pub state_at : Kind → List Row → ℕ → State
state_at kind rows place = result_unwrap_or (replay kind rows place) (empty kind)

-- what the structure holds after all rows
abbrev pub present : Kind → List Row → State
present kind rows = result_unwrap_or (run rows (empty kind)) (empty kind)
