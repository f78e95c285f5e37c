-- The weights of a priority queue's rows, which find its bridges.
use Rattle.std.specs.Prelude.{ℕ, ℤ, pos, negsuc, ◌+ℤ◌, not, List, take, count_by, if◌then◌else◌}
use Rattle.std.specs.Prelude.{Option, Some, None}
use Rattle.std.specs.List.{fold}
use Rattle.retro_base.specs.declared.op.Op.{Op}
use Rattle.retro_base.specs.declared.op.Op.TheVariants.{Ins}
use Rattle.retro_base.specs.declared.row.Entry.{Entry}
use Rattle.retro_base.specs.declared.row.Row.{Row}
use Rattle.retro_base.specs.Bridges.{entries_at, survivors, survives, is_among}

-- the entry that an operation adds, in a row of this number
abbrev pub added_as : Op → ℕ → Option Entry
added_as (Ins key) number = Some (record { key = key; number = number })
added_as op number = None

-- the entry that a row adds, where it adds one
abbrev pub added_by : Row → Option Entry
added_by row = added_as row.op row.number

-- the weight of a row that adds this entry, or takes one: 0 where the entry survives, 1 where it is dead, and -1
abbrev pub weight_as : List Entry → Option Entry → ℤ
weight_as alive None = negsuc 0
weight_as alive (Some entry) = if is_among alive entry then pos 0 else pos 1

-- the weight of a row of these rows
abbrev pub weight : List Row → Row → ℤ
weight rows row = weight_as (survivors rows) (added_by row)

-- the weights of the rows up to a place, added up
abbrev pub sum_of_weights : List Row → ℕ → ℤ
sum_of_weights rows place = fold (λ sum row. sum +ℤ weight rows row) (pos 0) (take place rows)

-- how many of the entries that are held at a place do not survive
abbrev pub dead_at : List Row → ℕ → ℕ
dead_at rows place = count_by (λ entry. not (survives rows entry)) (entries_at rows place)
