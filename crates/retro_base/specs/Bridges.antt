-- What an edit changes in the present of a priority queue. Bridges are those of Demaine, Iacono and
-- Langerman, "Retroactive Data Structures", section 5.5.
use Rattle.std.specs.Prelude.{ℕ, ◌==◌, Bool, ◌&&◌, zero, suc, ◌-◌, ◌<◌, ◌≤◌, List, [], length, Contains, if◌then◌else◌}
use Rattle.std.specs.Prelude.{Option, Some, None}
use Rattle.std.specs.Ordering.{int_eq}
use Rattle.std.specs.List.{AllByRecursion, list_all, list_any}
use Rattle.retro_base.specs.declared.kind.Kind.TheVariants.{Pq}
use Rattle.retro_base.specs.declared.op.Op.{Op}
use Rattle.retro_base.specs.declared.op.Op.TheVariants.{Ins, DelMin}
use Rattle.retro_base.specs.declared.row.Entry.{Entry}
use Rattle.retro_base.specs.declared.row.Row.{Row}
use Rattle.retro_base.specs.State.{State, items, pairs, entries}
use Rattle.retro_base.specs.Replay.{state_at, present}
use Rattle.retro_base.specs.Edits.{Edit, add, cut}

-- the entries of a priority queue's state
abbrev pub entries_of : State → List Entry
entries_of (items xs) = []
entries_of (pairs ps) = []
entries_of (entries es) = es

-- the entries that a priority queue holds at a place, and those that it holds after all rows
abbrev pub entries_at : List Row → ℕ → List Entry
entries_at rows place = entries_of (state_at Pq rows place)

abbrev pub survivors : List Row → List Entry
survivors rows = entries_of (present Pq rows)

-- a place is a bridge where each entry that is held there survives
abbrev pub IsBridge : List Row → ℕ → Type 0
IsBridge rows place = AllByRecursion (Contains (survivors rows)) (entries_at rows place)

-- the last bridge up to a place
pub record IsLastBridge (rows : List Row) (place bridge : ℕ) : Type 0 where
  pub within : bridge ≤ place
  pub bridges : IsBridge rows bridge
  pub last : (other : ℕ) → bridge < other → other ≤ place → ¬ IsBridge rows other

-- the first bridge from a place on
pub record IsFirstBridge (rows : List Row) (place bridge : ℕ) : Type 0 where
  pub from : place ≤ bridge
  pub within : bridge ≤ length rows
  pub bridges : IsBridge rows bridge
  pub first : (other : ℕ) → place ≤ other → other < bridge → ¬ IsBridge rows other

-- the tests: two entries are one, an entry is among some entries, it survives, a place is a bridge
abbrev pub same_entry : Entry → Entry → Bool
same_entry a b = int_eq a.key b.key && a.number == b.number

abbrev pub is_among : List Entry → Entry → Bool
is_among held entry = list_any (same_entry entry) held

abbrev pub survives : List Row → Entry → Bool
survives rows entry = is_among (survivors rows) entry

abbrev pub is_bridge : List Row → ℕ → Bool
is_bridge rows place = list_all (survives rows) (entries_at rows place)

-- the last bridge up to a place, found by going back from it: place 0 is one
abbrev pub last_bridge : List Row → ℕ → ℕ
last_bridge rows zero = zero
last_bridge rows (suc place) = if is_bridge rows (suc place) then suc place else last_bridge rows place

-- the first bridge among so many places from one on, or else the place after them
abbrev pub first_bridge_among : ℕ → List Row → ℕ → ℕ
first_bridge_among zero rows place = place
first_bridge_among (suc more) rows place = if is_bridge rows place then place else first_bridge_among more rows (suc place)

-- the first bridge from a place on: the place after all rows is one
abbrev pub first_bridge : List Row → ℕ → ℕ
first_bridge rows place = first_bridge_among (length rows - place) rows place

-- where the bridge that an edit states is looked for: back from a place, on from a place, or nowhere
pub data Sought : Type 0 where
  back_from : ℕ → Sought
  on_from : ℕ → Sought
  nowhere : Sought

-- for an added row: at its place
abbrev pub sought_for_added : Op → ℕ → Sought
sought_for_added (Ins key) place = back_from place
sought_for_added DelMin place = on_from place
sought_for_added op place = nowhere

-- for a row that is cut: at its place, but after an entry that is dead, and nowhere for one that survives
abbrev pub sought_for_cut : List Row → Op → ℕ → ℕ → Sought
sought_for_cut rows (Ins key) number place = if survives rows (record { key = key; number = number }) then nowhere else on_from (suc place)
sought_for_cut rows DelMin number place = back_from place
sought_for_cut rows op number place = nowhere

abbrev pub sought : List Row → Edit → Sought
sought rows (add place row) = sought_for_added row.op place
sought rows (cut place row) = sought_for_cut rows row.op row.number place

-- the bridge that stands there, and the same as a relation
abbrev pub bridge_found : List Row → Sought → Option ℕ
bridge_found rows (back_from place) = Some (last_bridge rows place)
bridge_found rows (on_from place) = Some (first_bridge rows place)
bridge_found rows nowhere = None

abbrev pub IsFound : List Row → Sought → Option ℕ → Type 0
IsFound rows (back_from place) (Some bridge) = IsLastBridge rows place bridge
IsFound rows (on_from place) (Some bridge) = IsFirstBridge rows place bridge
IsFound rows nowhere None = Unit {0}
IsFound rows place bridge = ⊥

-- the bridge that an edit states, by the rows before it: a place, or none where an entry that survives is cut
abbrev pub stated_bridge : List Row → Edit → Option ℕ
stated_bridge rows edit = bridge_found rows (sought rows edit)

abbrev pub IsStatedBridge : List Row → Edit → Option ℕ → Type 0
IsStatedBridge rows edit bridge = IsFound rows (sought rows edit) bridge
