-- Where a time or a row stands in a timeline: a place is a number of rows that stand before it.
use Rattle.std.specs.Prelude.{ℕ, List, nat_le, ◌==◌}
use Rattle.std.specs.Prelude.{Option}
use Rattle.std.specs.Prelude.{count_by, position}
use Rattle.retro_base.specs.declared.row.Row.{Row}

-- the place of a time: after all rows of this time and of earlier ones
abbrev pub place_of_time : ℕ → List Row → ℕ
place_of_time time rows = count_by (λ row. nat_le row.time time) rows

-- the place of the row with this number, where there is one
abbrev pub place_of_row : ℕ → List Row → Option ℕ
place_of_row number rows = position (λ row. row.number == number) rows
