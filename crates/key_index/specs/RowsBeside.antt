-- The rows beside an edit on its key, and what they say.
use Rattle.std.specs.Prelude.{ℕ, ℤ, Bool, true, false, ◌&&◌, nat_le, Option, Some, None, List, if◌then◌else◌}
use Rattle.std.specs.List.{filter}
use Rattle.retro_base.specs.declared.op.Op.{Op}
use Rattle.retro_base.specs.declared.op.Op.TheVariants.{Put, Del}
use Rattle.key_index.specs.declared.rows_beside.RowsBeside.{RowsBeside}
use Rattle.key_index.specs.KeyRows.{KeyRow, is_on, last_of, last_before, first_after}

-- the rows on a key next to a label
abbrev pub beside : ℤ → ℕ → List KeyRow → RowsBeside
beside key label rows = record { before = last_before key label rows; after = first_after key label rows }

-- the last row on a key up to a label, and the rows next to a place after those up to the label
abbrev pub last_up_to : ℤ → ℕ → List KeyRow → Option KeyRow
last_up_to key label rows = last_of (filter (λ row. is_on key row && nat_le row.0 label) rows)

abbrev pub around : ℤ → ℕ → List KeyRow → RowsBeside
around key label rows = record { before = last_up_to key label rows; after = first_after key label rows }

-- the operation leaves its key there
abbrev pub puts : Op → Bool
puts (Put key value) = true
puts op = false

-- the key is there after the last row on it
abbrev pub is_there : Option KeyRow → Bool
is_there None = false
is_there (Some row) = puts row.1

abbrev pub takes_out : Op → Bool
takes_out (Del key) = true
takes_out op = false

-- the label of the next row on a key, where it takes the key out
abbrev pub taken_at : Option KeyRow → Option ℕ
taken_at None = None
taken_at (Some row) = if takes_out row.1 then Some row.0 else None
