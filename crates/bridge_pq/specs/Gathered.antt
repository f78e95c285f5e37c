-- Entries put into others in their order, and what is left of the present of an earlier queue.
use Rattle.std.specs.Prelude.{◌≡◌, ℕ, suc, Bool, true, false, ◌+◌, ◌-◌, ◌<◌, ◌≤◌, List, [], ◌∷◌, length, map, take, drop, slice_get}
use Rattle.std.specs.Prelude.{Option, Some, None}
use Rattle.retro_base.specs.declared.row.Entry.{Entry}
use Rattle.retro_base.specs.declared.row.Row.{Row}
use Rattle.retro_base.specs.Bridges.{entries_at}
use Rattle.retro_base.specs.EntriesInOrder.{AreInOrder}
use Rattle.retro_base.specs.Limits.{most_rows}
use Rattle.retro_base.specs.State.{comes_before, with_entry}
use Rattle.retro_base.specs.Weights.{added_by}
use Rattle.retro_base.specs.lemmas.bridges.Moves.{Leads}
use Rattle.bridge_pq.specs.declared.marked_entry.MarkedEntry.{MarkedEntry}
use Rattle.bridge_pq.specs.MarkedEntries.{entries_in, present_in, Rise}

-- these entries put into others, in their order
unfoldable pub with_all : List Entry → List Entry → List Entry
with_all [] others = others
with_all (entry ∷ entries) others = with_entry entry (with_all entries others)

-- the first one in front of others, where there is one
abbrev pub in_front : Option Entry → List Entry → List Entry
in_front None others = others
in_front (Some entry) others = entry ∷ others

-- the first of some entries was taken, where there is one
pub record IsTaken (before : List Entry) (entry : Option Entry) (after : List Entry) : Type 0 where
  pub first : entry ≡ slice_get before 0
  pub others : after ≡ drop 1 before

-- what is still to come of the present of an earlier queue, which has so many entries, the dead ones among them
pub record Left : Type 0 where
  pub entries : List Entry
  pub of : ℕ

-- what a queue holds some rows later, and how many entries of it came in since, at the most
pub record HeldLater : Type 0 where
  pub entries : List Entry
  pub fresh : ℕ
  pub of : ℕ

-- how many of the first so many entries are in the present
abbrev pub count_to : List MarkedEntry → ℕ → ℕ
count_to items place = length (present_in (take place items))

-- the entry at this index of the present is the last one before this place
pub record EndsAt (items : List MarkedEntry) (index end : ℕ) : Type 0 where
  pub some : 1 ≤ end
  pub within : end ≤ length items
  pub passed : count_to items end ≡ index + 1
  pub there : (item : MarkedEntry) → slice_get items (end - 1) ≡ Some item → slice_get (present_in items) index ≡ Some item.entry

-- a window has the entries from its start to its end, of which those up to a place were passed, and so many of them are in the present
pub record IsWindow (items window : List MarkedEntry) (passed place start end : ℕ) : Type 0 where
  pub few : passed ≤ length items
  pub live : place < end → (start ≤ place) × (count_to items place ≡ passed)
  pub within : end ≤ length items
  pub room : end ≤ start + 32
  pub same : (index : ℕ) → start + index < end → slice_get window index ≡ slice_get items (start + index)

-- the entries that were there are in their order, and where there is no first one, none is left
pub record IsHeld (first : Option Entry) (left : List Entry) : Type 0 where
  pub order : AreInOrder (in_front first left)
  pub none : first ≡ None → left ≡ []

-- what is held after moves, of which each adds an entry, or takes the least one
abbrev pub after_moves : List (Option Entry) → List Entry → List Entry
after_moves [] held = held
after_moves (Some entry ∷ moves) held = after_moves moves (with_entry entry held)
after_moves (None ∷ moves) held = after_moves moves (drop 1 held)

-- how many of them add
abbrev pub additions : List (Option Entry) → ℕ
additions [] = 0
additions (Some entry ∷ moves) = suc (additions moves)
additions (None ∷ moves) = additions moves

-- the first of the entries that came in is taken before the first of those that were there
abbrev pub fresh_first : Option Entry → Option Entry → Bool
fresh_first None None = true
fresh_first None (Some first) = false
fresh_first (Some fresh) None = true
fresh_first (Some fresh) (Some first) = comes_before fresh first

-- what the rows from a place to another one add, or none where they take
abbrev pub moves_from : List Row → ℕ → ℕ → List (Option Entry)
moves_from rows from to = map added_by (take (to - from) (drop from rows))

-- these entries are the present of the first rows, as far as the place
pub record IsEarlier (entries : List MarkedEntry) (rows : List Row) (from to : ℕ) : Type 0 where
  pub order : from ≤ to
  pub within : to ≤ length rows
  pub few : length rows ≤ most_rows
  pub fewer : length entries ≤ from
  pub rise : Rise (entries_in entries)
  pub leads : Leads (moves_from rows from to) (present_in entries) (entries_at rows to)
