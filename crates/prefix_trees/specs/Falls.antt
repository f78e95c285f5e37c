-- A row of a line that finds nothing to take is one before which all items were taken: after it the size of the
-- line would be below 0.
use Rattle.std.specs.Prelude.{ℕ, suc, ◌<◌, ◌≤◌, ℤ, pos, ◌+ℤ◌, ◌<ℤ◌, ◌≤ℤ◌, List, length}
use Rattle.std.specs.Prelude.{Option, MatchOption}
use Rattle.retro_base.specs.declared.row.Row.{Row}
use Rattle.prefix_trees.specs.Growth.{sign_of, grown}

-- after no row the size falls below 0, where the line begins with a number of items
abbrev pub NeverFallsFrom : ℤ → List Row → Type 0
NeverFallsFrom start rows = (place : ℕ) → place ≤ length rows → pos 0 ≤ℤ (start +ℤ grown sign_of rows place)

-- the row at the index is the first one after which it does
pub record FallsAtFrom (start : ℤ) (rows : List Row) (index : ℕ) : Type 0 where
  pub within : index < length rows
  pub falls : (start +ℤ grown sign_of rows (suc index)) <ℤ pos 0
  pub not_before : (place : ℕ) → place ≤ index → pos 0 ≤ℤ (start +ℤ grown sign_of rows place)

-- that index, or none where the size never falls below 0
abbrev pub FallsFirstFrom : ℤ → List Row → Option ℕ → Type 0
FallsFirstFrom start rows answer = MatchOption answer (NeverFallsFrom start rows) (FallsAtFrom start rows)

-- from no items on
abbrev pub NeverFalls : List Row → Type 0
NeverFalls rows = NeverFallsFrom (pos 0) rows

abbrev pub FallsFirst : List Row → Option ℕ → Type 0
FallsFirst rows answer = FallsFirstFrom (pos 0) rows answer
