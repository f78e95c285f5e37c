-- Where something stands among what is there, which decides when it is taken.
use Rattle.std.specs.Prelude.{ℕ, ℤ, zero, suc, ◌+◌, ◌-◌, ◌≤◌, Bool, true, if◌then◌else◌}
use Rattle.std.specs.Prelude.{Option, Some, None}
use Rattle.std.specs.Ordering.{int_eq}
use Rattle.fates.specs.declared.standing.Standing.{Standing}
use Rattle.fates.specs.declared.standing.Standing.TheVariants.{InLine, AtKey, AfterLesser}
use Rattle.retro_base.specs.declared.op.Op.{Op}
use Rattle.retro_base.specs.declared.op.Op.TheVariants.{Enq, Deq, Push, Pop, PushL, PushR, PopL, PopR, Put, Del, Ins, DelMin}
use Rattle.retro_base.specs.declared.row.Entry.{Entry}
use Rattle.retro_base.specs.declared.row.Row.{Row}
use Rattle.retro_base.specs.Kind.{adds}
use Rattle.retro_base.specs.State.{comes_before}

abbrev pub without_left : ℕ → ℕ → Option Standing
without_left zero right = None
without_left (suc left) right = Some (InLine left right)

abbrev pub without_right : ℕ → ℕ → Option Standing
without_right left zero = None
without_right left (suc right) = Some (InLine left right)

-- an item of a line after an operation, or none where the operation takes it
abbrev pub line_after : ℕ → ℕ → Op → Option Standing
line_after left right (Enq value) = Some (InLine left (right + 1))
line_after left right (PushR value) = Some (InLine left (right + 1))
line_after left right (Push value) = Some (InLine (left + 1) right)
line_after left right (PushL value) = Some (InLine (left + 1) right)
line_after left right Deq = without_left left right
line_after left right Pop = without_left left right
line_after left right PopL = without_left left right
line_after left right PopR = without_right left right
line_after left right op = Some (InLine left right)

abbrev pub without_least : Entry → ℕ → Option Standing
without_least entry zero = None
without_least entry (suc lesser) = Some (AfterLesser entry lesser)

-- an entry after an operation by the row of this number
abbrev pub entry_after : Entry → ℕ → ℕ → Op → Option Standing
entry_after entry lesser number (Ins key) =
    if comes_before (record { key = key; number = number }) entry then Some (AfterLesser entry (lesser + 1)) else Some (AfterLesser entry lesser)
entry_after entry lesser number DelMin = without_least entry lesser
entry_after entry lesser number op = Some (AfterLesser entry lesser)

-- the pair of a key after an operation: a row on its key takes it, a put among them, whatever its value
abbrev pub pair_after : ℤ → Op → Option Standing
pair_after key (Put other value) = if int_eq key other then None else Some (AtKey key)
pair_after key (Del other) = if int_eq key other then None else Some (AtKey key)
pair_after key op = Some (AtKey key)

-- what is left of a standing after a row
abbrev pub after_row : Standing → Row → Option Standing
after_row (InLine left right) row = line_after left right row.op
after_row (AtKey key) row = pair_after key row.op
after_row (AfterLesser entry lesser) row = entry_after entry lesser row.number row.op

-- a row before this entry's own that adds counts, where what it adds is a lesser entry or stands in a line
abbrev pub is_lesser : ℕ → Op → Entry → Bool
is_lesser number (Ins key) entry = comes_before (record { key = key; number = number }) entry
is_lesser number op entry = true

abbrev pub is_counted : Op → ℕ → Row → Bool
is_counted (Ins key) number row = is_lesser row.number row.op (record { key = key; number = number })
is_counted op number row = true

abbrev pub standing_by : Op → ℕ → ℕ → Standing
standing_by (Push value) number count = InLine 0 count
standing_by (PushL value) number count = InLine 0 count
standing_by (Put key value) number count = AtKey key
standing_by (Ins key) number count = AfterLesser (record { key = key; number = number }) count
standing_by op number count = InLine count 0

abbrev pub counts : Row → Row → Bool
counts own row = is_counted own.op own.number row

-- how many are counted after one more row before its own
abbrev pub count_after : Row → ℕ → Row → ℕ
count_after own count row = if adds row.op then (if counts own row then count + 1 else count) else count - 1

-- where it stands right after its own row, before which so many were counted
abbrev pub standing_of : Row → ℕ → Standing
standing_of own count = standing_by own.op own.number count

-- its numbers are at most so many
abbrev pub IsUpTo : Standing → ℕ → Type 0
IsUpTo (InLine left right) most = (left ≤ most) × (right ≤ most)
IsUpTo (AtKey key) most = Unit {0}
IsUpTo (AfterLesser entry lesser) most = lesser ≤ most
