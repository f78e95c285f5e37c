-- Operations with another value.
use Rattle.std.specs.Prelude.{ℤ}
use Rattle.retro_base.specs.declared.op.Op.{Op}
use Rattle.retro_base.specs.declared.op.Op.TheVariants.{Enq, Push, PushL, PushR, Put}
use Rattle.retro_base.specs.declared.row.Row.{Row}

-- the operation with another value in place of its own; one that has only a key, or none, stays as it is
abbrev pub with_value : ℤ → Op → Op
with_value value (Enq old) = Enq value
with_value value (Push old) = Push value
with_value value (PushL old) = PushL value
with_value value (PushR old) = PushR value
with_value value (Put key old) = Put key value
with_value value op = op

-- the row with another value
abbrev pub with_row_value : (Row → ℤ) → Row → Row
with_row_value value_of row = record { number = row.number; time = row.time; op = with_value (value_of row) row.op }
