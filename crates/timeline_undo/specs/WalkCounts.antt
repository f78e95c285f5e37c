-- What is counted along rows to find the first one that cannot be performed: the items of a line and the entries of a priority queue,
-- and of a dictionary whether two keys are there.
use Rattle.std.specs.Prelude.{ℕ, ℤ, ◌≤◌, Bool, false, ◌||◌, List, [], ◌∷◌, if◌then◌else◌}
use Rattle.std.specs.Prelude.{Option, Some, None, option_map, option_and_then, Result, Ok, Err}
use Rattle.std.specs.Option.{option_map_or}
use Rattle.std.specs.Ordering.{int_eq}
use Rattle.retro_base.specs.declared.op.Op.{Op}
use Rattle.retro_base.specs.declared.op.Op.TheVariants.{Put, Del}
use Rattle.retro_base.specs.declared.row.Row.{Row}
use Rattle.retro_base.specs.Counting.{size_after}
use Rattle.timeline_undo.specs.declared.walk_count.WalkCount.{WalkCount}
use Rattle.timeline_undo.specs.declared.walk_count.WalkCount.TheVariants.{Items, Keys}
use Rattle.timeline_undo.specs.declared.walk_count.Presence.{Presence}

-- whether a key is there after an operation, or none where the operation takes it and it is not there
abbrev pub there_after : ℤ → Op → Bool → Option Bool
there_after key (Put other value) there = Some (int_eq key other || there)
there_after key (Del other) there = if int_eq key other then (if there then Some false else None) else Some there
there_after key op there = Some there

abbrev pub presence_after : Presence → Op → Option Presence
presence_after presence op = option_map (λ there. record presence { there = there }) (there_after presence.key op presence.there)

-- the count after an operation, or none where it finds nothing to take
abbrev pub count_next : WalkCount → Op → Option WalkCount
count_next (Items size) op = option_map Items (size_after op size)
count_next (Keys first second) op =
    option_and_then (λ one. option_map (λ other. Keys one other) (presence_after second op)) (presence_after first op)

-- the count after rows, or the first of them that finds nothing to take
unfoldable pub walked : List Row → WalkCount → Result WalkCount Row
walked [] count = Ok count
walked (row ∷ rows) count = option_map_or (λ next. walked rows next) (count_next count row.op) (Err row)

-- it counts so many at the most
abbrev pub IsUpTo : WalkCount → ℕ → Type 0
IsUpTo (Items size) most = size ≤ most
IsUpTo (Keys first second) most = Unit {0}

-- the key of an operation of a dictionary
abbrev pub key_of : Op → Option ℤ
key_of (Put key value) = Some key
key_of (Del key) = Some key
key_of op = None

abbrev pub absent : ℤ → Presence
absent key = record { key = key; there = false }

-- the count before the first row, where a row of the one operation is replaced by a row of the other
abbrev pub count_of_keys : Option ℤ → Option ℤ → WalkCount
count_of_keys (Some first) (Some second) = Keys (absent first) (absent second)
count_of_keys first second = Items 0

abbrev pub count_first : Op → Op → WalkCount
count_first old new = count_of_keys (key_of old) (key_of new)
