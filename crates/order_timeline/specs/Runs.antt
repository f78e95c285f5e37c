-- Rows in runs of neighbours, each with a name.
use Rattle.std.specs.Prelude.{◌≡◌, ℕ, ◌+◌, ◌-◌, ◌<◌, ◌≤◌, ◌⊎◌, List, [], ◌∷◌, ◌++◌, length, take, replicate, slice_get, slice_index, slice_set, ◌==◌, Some}
use Rattle.std.specs.List.{insert, position_or_len, AllByRecursion}
use Rattle.retro_base.specs.declared.row.Row.{Row}
use Rattle.order_timeline.specs.Numbers.{IsNamed, Pages}
use Rattle.order_timeline.specs.Rows.{IsOrdered}

-- how many rows runs of these lengths have
abbrev pub rows_in : List ℕ → ℕ
rows_in [] = 0
rows_in (run ∷ runs) = run + rows_in runs

-- where the run with this index begins
abbrev pub start_of : List ℕ → ℕ → ℕ
start_of runs index = rows_in (take index runs)

-- the place lies in the run with this index
pub record IsInRun (runs : List ℕ) (index place : ℕ) : Type 0 where
  pub there : index < length runs
  pub begun : start_of runs index ≤ place
  pub lasts : place < start_of runs index + slice_index runs index

-- a row at this place may be one of the run with this index
pub record TakesRow (runs : List ℕ) (index place : ℕ) : Type 0 where
  pub there : index < length runs
  pub begun : start_of runs index ≤ place
  pub lasts : place ≤ start_of runs index + slice_index runs index

-- a name for each row: that of its run
abbrev pub name_for_each : List ℕ → List ℕ → List ℕ
name_for_each [] names = []
name_for_each (run ∷ runs) [] = []
name_for_each (run ∷ runs) (name ∷ names) = replicate run name ++ name_for_each runs names

-- each run has a name, and the table has the name of each row's run at the row's number
pub record IsInRuns (rows : List Row) (runs names : List ℕ) (numbers : Pages) : Type 0 where
  pub each : length names ≡ length runs
  pub named : IsNamed rows (name_for_each runs names) numbers

-- the most rows of a run
abbrev pub longest_run : ℕ
longest_run = 32

-- a run has rows, and no more than that
pub record IsFilled (run : ℕ) : Type 0 where
  pub some : 1 ≤ run
  pub few : run ≤ longest_run

-- each run is filled, or there is one that waits for the first row
abbrev pub AreFilled : List ℕ → Type 0
AreFilled runs = AllByRecursion IsFilled runs ⊎ (runs ≡ 0 ∷ [])

-- the run with this index has so many rows, and room for one more
pub record HasRoom (runs : List ℕ) (index count : ℕ) : Type 0 where
  pub told : slice_get runs index ≡ Some count
  pub few : count < longest_run

-- the runs where the one with this index, which has so many rows, is divided: so many stay
abbrev pub divided : List ℕ → ℕ → ℕ → ℕ → List ℕ
divided runs index count half = slice_set (insert runs (index + 1) (count - half)) index half

-- what a timeline keeps: rows in order, in runs that are filled
pub record RepresentsRows (rows : List Row) (runs names : List ℕ) (numbers : Pages) : Type 0 where
  pub ordered : IsOrdered rows
  pub in_runs : IsInRuns rows runs names numbers
  pub filled : AreFilled runs

-- no row before the place has the number
abbrev pub IsNotBefore : List Row → ℕ → ℕ → Type 0
IsNotBefore rows place number = place ≤ position_or_len (λ row. row.number == number) rows
