-- What contracts see of a tree of rows: the rows, and how far the sides of its pairs have come apart since they were made.
use Rattle.std.specs.Prelude.{ℕ, ◌+◌, ◌-◌, List, ◌++◌, length}
use Rattle.retro_base.specs.declared.row.Row.{Row}

-- rows in order, and the wear of the tree above them
pub record WornRows : Type 0 where
  pub rows : List Row
  pub wear : ℕ

-- by how many rows more than one the sides of a pair differ
abbrev pub gap : ℕ → ℕ → ℕ
gap earlier later = (earlier - later) + (later - earlier) - 1

-- rows that are made anew: the sides of each pair differ by one row at most
abbrev pub unworn : List Row → WornRows
unworn rows = record { rows = rows; wear = 0 }

-- two sides that become a pair
abbrev pub joined : WornRows → WornRows → WornRows
joined earlier later = record {
  rows = earlier.rows ++ later.rows;
  wear = earlier.wear + later.wear + gap (length earlier.rows) (length later.rows);
}
