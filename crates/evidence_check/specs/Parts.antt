-- Marked rows as those of parts that follow one another.
use Rattle.std.specs.Prelude.{◌≡◌, ℕ, zero, suc, ◌+◌, ◌≤◌, Bool, false, List, [], ◌∷◌, length, take, slice_get}
use Rattle.std.specs.Prelude.{Option, Some, None}
use Rattle.std.specs.Option.{option_and_then}
use Rattle.std.specs.List.{flat_map}
use Rattle.retro_base.specs.declared.row.Entry.{Entry}
use Rattle.retro_base.specs.Bridges.{same_entry}
use Rattle.evidence_check.specs.declared.weighed_row.WeighedRow.{WeighedRow}
use Rattle.evidence_check.specs.declared.search.Held.{Held}

-- the row at a place has this mark
abbrev pub marked_at : ℕ → Bool → List WeighedRow → List WeighedRow
marked_at place alive [] = []
marked_at zero alive (first ∷ others) = record first { alive = alive } ∷ others
marked_at (suc place) alive (first ∷ others) = first ∷ marked_at place alive others

-- the entry that the row at a place shows
abbrev pub shows_at : (WeighedRow → Option Entry) → List WeighedRow → ℕ → Option Entry
shows_at shown marked place = option_and_then shown (slice_get marked place)

-- there is one, and it is this entry
abbrev pub is_entry : Option Entry → Entry → Bool
is_entry None entry = false
is_entry (Some other) entry = same_entry other entry

-- the rows of what did not fit, and its parts
abbrev pub rest_of : {P : Type 0} → (P → List WeighedRow) → Option P → List WeighedRow
rest_of rows None = []
rest_of rows (Some part) = rows part

-- the part in which a place lies, with so many rows at least from there on, and how many rows stand before it
pub record Holds {P : Type 0} (rows : P → List WeighedRow) (parts : List P) (least place : ℕ) (held : Held) : Type 0 where
  pub part : P
  pub there : slice_get parts held.index ≡ Some part
  pub before : held.before ≡ length (flat_map rows (take held.index parts))
  pub from : held.before ≤ place
  pub to : place + least ≤ held.before + length (rows part)
