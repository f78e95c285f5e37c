-- A packed row is the row with its operation outermost: a variant of each operation holds the number, the time and what the
-- operation takes. `unpacked` is the row that a packed one stands for, and `packed_of` the packed one that stands for a row.
-- What was unpacked and is packed again is the same, so no two packed rows stand for one row.
use Rattle.std.specs.Prelude.{◌≡◌, ℕ, refl}
use Rattle.retro_base.specs.declared.op.Op.{Op}
use Rattle.retro_base.specs.declared.op.Op.TheVariants as ops
use Rattle.retro_base.specs.declared.packed_row.Packed.{Packed}
use Rattle.retro_base.specs.declared.packed_row.Packed.TheVariants.{Enq, Deq, Push, Pop, PushL, PushR, PopL, PopR, Put, Del, Ins, DelMin}
use Rattle.retro_base.specs.declared.row.Row.{Row}

abbrev pub unpacked : Packed → Row
unpacked (Enq number time value) = record { number = number; time = time; op = ops.Enq value }
unpacked (Deq number time) = record { number = number; time = time; op = ops.Deq }
unpacked (Push number time value) = record { number = number; time = time; op = ops.Push value }
unpacked (Pop number time) = record { number = number; time = time; op = ops.Pop }
unpacked (PushL number time value) = record { number = number; time = time; op = ops.PushL value }
unpacked (PushR number time value) = record { number = number; time = time; op = ops.PushR value }
unpacked (PopL number time) = record { number = number; time = time; op = ops.PopL }
unpacked (PopR number time) = record { number = number; time = time; op = ops.PopR }
unpacked (Put number time key value) = record { number = number; time = time; op = ops.Put key value }
unpacked (Del number time key) = record { number = number; time = time; op = ops.Del key }
unpacked (Ins number time key) = record { number = number; time = time; op = ops.Ins key }
unpacked (DelMin number time) = record { number = number; time = time; op = ops.DelMin }

abbrev packed_with : ℕ → ℕ → Op → Packed
packed_with number time (ops.Enq value) = Enq number time value
packed_with number time ops.Deq = Deq number time
packed_with number time (ops.Push value) = Push number time value
packed_with number time ops.Pop = Pop number time
packed_with number time (ops.PushL value) = PushL number time value
packed_with number time (ops.PushR value) = PushR number time value
packed_with number time ops.PopL = PopL number time
packed_with number time ops.PopR = PopR number time
packed_with number time (ops.Put key value) = Put number time key value
packed_with number time (ops.Del key) = Del number time key
packed_with number time (ops.Ins key) = Ins number time key
packed_with number time ops.DelMin = DelMin number time

abbrev pub packed_of : Row → Packed
packed_of row = packed_with row.number row.time row.op

pub packed_of-unpacked : (packed : Packed) → packed_of (unpacked packed) ≡ packed
packed_of-unpacked (Enq number time value) = refl
packed_of-unpacked (Deq number time) = refl
packed_of-unpacked (Push number time value) = refl
packed_of-unpacked (Pop number time) = refl
packed_of-unpacked (PushL number time value) = refl
packed_of-unpacked (PushR number time value) = refl
packed_of-unpacked (PopL number time) = refl
packed_of-unpacked (PopR number time) = refl
packed_of-unpacked (Put number time key value) = refl
packed_of-unpacked (Del number time key) = refl
packed_of-unpacked (Ins number time key) = refl
packed_of-unpacked (DelMin number time) = refl
