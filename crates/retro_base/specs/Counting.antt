-- Counting decides which row cannot be performed: of a dictionary whether the key of the edited row is there, and of the other kinds the number of items.
use Rattle.std.specs.Prelude.{ℕ, ℤ, zero, suc, List, if◌then◌else◌}
use Rattle.std.specs.Prelude.{Option, Some, None, Result}
use Rattle.std.specs.Ordering.{int_eq}
use Rattle.retro_base.specs.declared.counting.Quantity.{Quantity}
use Rattle.retro_base.specs.declared.counting.Quantity.TheVariants.{Items, Key}
use Rattle.retro_base.specs.declared.op.Op.{Op}
use Rattle.retro_base.specs.declared.op.Op.TheVariants.{Enq, Deq, Push, Pop, PushL, PushR, PopL, PopR, Put, Del, Ins, DelMin}
use Rattle.retro_base.specs.declared.row.Row.{Row}
use Rattle.retro_base.specs.Replay.{fold_rows}

-- what decides on an edit of a row with this operation
abbrev pub quantity_of : Op → Quantity
quantity_of (Put key value) = Key key
quantity_of (Del key) = Key key
quantity_of op = Items

-- one item fewer, where there is one
abbrev pub one_fewer : ℕ → Option ℕ
one_fewer zero = None
one_fewer (suc size) = Some size

-- how many items there are after an operation, or none where it takes and there is nothing to take
abbrev pub size_after : Op → ℕ → Option ℕ
size_after (Enq value) size = Some (suc size)
size_after Deq size = one_fewer size
size_after (Push value) size = Some (suc size)
size_after Pop size = one_fewer size
size_after (PushL value) size = Some (suc size)
size_after (PushR value) size = Some (suc size)
size_after PopL size = one_fewer size
size_after PopR size = one_fewer size
size_after (Put key value) size = Some (suc size)
size_after (Del key) size = one_fewer size
size_after (Ins key) size = Some (suc size)
size_after DelMin size = one_fewer size

-- how many pairs of a key there are after an operation, or none where it takes the pair and there is none
abbrev pub pair_after : ℤ → Op → ℕ → Option ℕ
pair_after key (Put other value) size = if int_eq key other then Some 1 else Some size
pair_after key (Del other) size = if int_eq key other then one_fewer size else Some size
pair_after key op size = Some size

-- how many are counted after an operation
abbrev pub quantity_after : Quantity → Op → ℕ → Option ℕ
quantity_after Items op size = size_after op size
quantity_after (Key key) op size = pair_after key op size

-- how many are counted after these rows, or the index of the first one that finds nothing to take
abbrev pub counted : Quantity → List Row → ℕ → Result ℕ ℕ
counted quantity rows size = fold_rows (λ row n. quantity_after quantity row.op n) rows size
