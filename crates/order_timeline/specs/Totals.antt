-- How many rows some runs have.
use Rattle.std.specs.Prelude.{ℕ, ◌+◌}

-- the runs, and their rows
pub record Total : Type 0 where
  pub runs : ℕ
  pub rows : ℕ

-- no runs
abbrev pub no_total : Total
no_total = record { runs = 0; rows = 0 }

-- one run
abbrev pub one_total : ℕ → Total
one_total rows = record { runs = 1; rows = rows }

-- the runs of both
abbrev pub joined_total : Total → Total → Total
joined_total a b = record { runs = a.runs + b.runs; rows = a.rows + b.rows }
