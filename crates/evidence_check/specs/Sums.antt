-- The sums of marked rows: those of two lists joined are the join of their sums.
use Rattle.std.specs.Prelude.{ℕ, ◌+◌, ℤ, pos, negsuc, ◌+ℤ◌, ◌≤ℤ◌, int_lt, Bool, List, [], ◌∷◌, length, if◌then◌else◌}
use Rattle.std.specs.Prelude.{Option, Some, None}
use Rattle.retro_base.specs.declared.row.Entry.{Entry}
use Rattle.retro_base.specs.Limits.{most_rows}
use Rattle.evidence_check.specs.declared.weighed_row.WeighedRow.{WeighedRow}
use Rattle.evidence_check.specs.declared.sums.Sums.{Sums}
use Rattle.retro_base.specs.Better.{comes_after, better_of}
use Rattle.retro_base.specs.State.{comes_before}
use Rattle.evidence_check.specs.Marks.{entry_of, greatest_dead, least_alive}

-- the weight of a row, by its mark: 0 where its entry survives, 1 where it is dead, and -1 where it takes one
abbrev pub weight_by : Bool → Option Entry → ℤ
weight_by alive None = negsuc 0
weight_by alive (Some entry) = if alive then pos 0 else pos 1

abbrev pub weight_of : WeighedRow → ℤ
weight_of marked = weight_by marked.alive (entry_of marked)

-- the weights of rows, added up
abbrev pub sum_of : List WeighedRow → ℤ
sum_of [] = pos 0
sum_of (first ∷ others) = weight_of first +ℤ sum_of others

abbrev pub lesser : ℤ → ℤ → ℤ
lesser number other = if int_lt other number then other else number

-- the least of the sums of the first one, the first two and so on of the rows; 1 where there is none
abbrev pub low_of : List WeighedRow → ℤ
low_of [] = pos 1
low_of (first ∷ others) = lesser (weight_of first) (weight_of first +ℤ low_of others)

-- the sums of rows
abbrev pub sums_of : List WeighedRow → Sums
sums_of marked = record { rows = length marked; sum = sum_of marked; low = low_of marked; dead = greatest_dead marked; alive = least_alive marked }

-- the sums of rows and then others, by those of each
abbrev pub joined : Sums → Sums → Sums
joined sums other = record {
  rows = sums.rows + other.rows;
  sum = sums.sum +ℤ other.sum;
  low = lesser sums.low (sums.sum +ℤ other.low);
  dead = better_of comes_before sums.dead other.dead;
  alive = better_of comes_after sums.alive other.alive;
}

-- a number keeps within the most rows where so many more are counted, up or down
pub record HasRoom (number : ℤ) (rows : ℕ) : Type 0 where
  pub up : (number +ℤ pos rows) ≤ℤ pos most_rows
  pub down : pos rows ≤ℤ (number +ℤ pos most_rows)

-- each row weighs at most 1, up or down
pub record AreBounded (sums : Sums) : Type 0 where
  pub up : sums.sum ≤ℤ pos sums.rows
  pub down : pos 0 ≤ℤ (sums.sum +ℤ pos sums.rows)
  pub low_up : sums.low ≤ℤ pos 1
  pub low_down : pos 0 ≤ℤ (sums.low +ℤ pos sums.rows)
