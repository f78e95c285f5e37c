-- Searches among the sums of the growth of the first rows: where the line has grown by no more than a value.
use Rattle.std.specs.Prelude.{ℕ, ◌<◌, ◌≤◌, ℤ, ◌<ℤ◌, ◌≤ℤ◌, List, length}
use Rattle.std.specs.Prelude.{Option, MatchOption, ◌⊎◌}
use Rattle.retro_base.specs.declared.op.Op.{Op}
use Rattle.retro_base.specs.declared.row.Row.{Row}
use Rattle.prefix_trees.specs.Growth.{grown, left_growth, right_growth}

-- the least place from `from` on before which the growth is at most the value
pub record IsFirstAtMost (growth : Op → ℤ) (rows : List Row) (from : ℕ) (value : ℤ) (place : ℕ) : Type 0 where
  pub above : from ≤ place
  pub within : place ≤ length rows
  pub reached : grown growth rows place ≤ℤ value
  pub not_before : (earlier : ℕ) → from ≤ earlier → earlier < place → value <ℤ grown growth rows earlier

-- the greatest such place up to `to`
pub record IsLastAtMost (growth : Op → ℤ) (rows : List Row) (to : ℕ) (value : ℤ) (place : ℕ) : Type 0 where
  pub within : place ≤ to
  pub reached : grown growth rows place ≤ℤ value
  pub not_after : (later : ℕ) → place < later → later ≤ to → value <ℤ grown growth rows later

-- there is no such place from `from` to `to`
abbrev pub NoneAtMost : (Op → ℤ) → List Row → ℕ → ℕ → ℤ → Type 0
NoneAtMost growth rows from to value = (place : ℕ) → from ≤ place → place ≤ to → value <ℤ grown growth rows place

-- the first or the last such place, or none where there is none
abbrev pub FindsFirstAtMost : (Op → ℤ) → List Row → ℕ → ℤ → Option ℕ → Type 0
FindsFirstAtMost growth rows from value answer = MatchOption answer (NoneAtMost growth rows from (length rows) value) (IsFirstAtMost growth rows from value)

abbrev pub FindsLastAtMost : (Op → ℤ) → List Row → ℕ → ℤ → Option ℕ → Type 0
FindsLastAtMost growth rows to value answer = MatchOption answer (NoneAtMost growth rows 0 to value) (IsLastAtMost growth rows to value)

-- the growth of the first rows is above one value at the left end, and above another at the right end
abbrev pub IsAboveBoth : List Row → ℤ → ℤ → ℕ → Type 0
IsAboveBoth rows left right place = (left <ℤ grown left_growth rows place) × (right <ℤ grown right_growth rows place)

-- the greatest place up to `to` where this is not so
pub record IsLastAtEither (rows : List Row) (to : ℕ) (left right : ℤ) (place : ℕ) : Type 0 where
  pub within : place ≤ to
  pub reached : (grown left_growth rows place ≤ℤ left) ⊎ (grown right_growth rows place ≤ℤ right)
  pub not_after : (later : ℕ) → place < later → later ≤ to → IsAboveBoth rows left right later

-- that place, or none where there is none
abbrev pub FindsLastAtEither : List Row → ℕ → ℤ → ℤ → Option ℕ → Type 0
FindsLastAtEither rows to left right answer = MatchOption answer ((place : ℕ) → place ≤ to → IsAboveBoth rows left right place) (IsLastAtEither rows to left right)
