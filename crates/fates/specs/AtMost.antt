-- How many entries of a priority queue are at most a given one: their number rises and falls along a replay.
use Rattle.std.specs.Prelude.{◌≡◌, ℕ, suc, ◌+◌, ◌-◌, Bool, not, List, length, filter, slice_get, if◌then◌else◌}
use Rattle.std.specs.Prelude.{Some}
use Rattle.retro_base.specs.declared.kind.Kind.TheVariants.{Pq}
use Rattle.retro_base.specs.declared.op.Op.{Op}
use Rattle.retro_base.specs.declared.op.Op.TheVariants.{Ins, DelMin}
use Rattle.retro_base.specs.declared.row.Entry.{Entry}
use Rattle.retro_base.specs.declared.row.Row.{Row}
use Rattle.retro_base.specs.Bridges.{entries_at}
use Rattle.retro_base.specs.State.{comes_before}
use Rattle.retro_base.specs.Timeline.{IsReplayable}

-- an entry is at most this one: this one does not come before it
abbrev pub is_at_most : Entry → Entry → Bool
is_at_most most entry = not (comes_before most entry)

-- how many of the entries that are held at a place are at most this one
abbrev pub at_most : Entry → List Row → ℕ → ℕ
at_most most rows place = length (filter (is_at_most most) (entries_at rows place))

-- how many they are after an operation by the row of this number: an `ins` of such an entry adds one, and a `delmin` takes one where there is one
abbrev pub counted_on : Entry → ℕ → ℕ → Op → ℕ
counted_on most count number (Ins key) = if is_at_most most (record { key = key; number = number }) then count + 1 else count
counted_on most count number DelMin = count - 1
counted_on most count number op = count

-- so it is at each row of a priority queue
abbrev pub AtMostIsCounted : Type 0
AtMostIsCounted = (most : Entry) (rows : List Row) (place : ℕ) (row : Row) → IsReplayable Pq rows → slice_get rows place ≡ Some row
    → at_most most rows (suc place) ≡ counted_on most (at_most most rows place) row.number row.op
