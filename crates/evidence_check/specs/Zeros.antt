-- Where the weights of rows add up to 0, after some number: at each such place a row ends.
use Rattle.std.specs.Prelude.{◌≡◌, ℕ, suc, ◌-◌, ◌≤◌, ℤ, pos, ◌+ℤ◌, List, length, take}
use Rattle.evidence_check.specs.declared.weighed_row.WeighedRow.{WeighedRow}
use Rattle.evidence_check.specs.Sums.{sum_of}

-- the number and the weights up to a place add up to 0
abbrev pub IsZero : ℤ → List WeighedRow → ℕ → Type 0
IsZero before marked place = (before +ℤ sum_of (take place marked)) ≡ pos 0

-- they do so after none of the rows, at the places between two and at these
abbrev pub HasNoZero : ℤ → List WeighedRow → ℕ → ℕ → Type 0
HasNoZero before marked from to = (place : ℕ) → 1 ≤ place → from ≤ place → place ≤ to → place ≤ length marked → ¬ IsZero before marked place

-- the last such place up to `to`, or 0
pub record IsLastZero (before : ℤ) (marked : List WeighedRow) (to place : ℕ) : Type 0 where
  pub within : place ≤ to
  pub inside : place ≤ length marked
  pub is_zero : 1 ≤ place → IsZero before marked place
  pub last : HasNoZero before marked (suc place) to

-- the first such place from `from` on, or 0
pub record IsFirstZero (before : ℤ) (marked : List WeighedRow) (from place : ℕ) : Type 0 where
  pub within : 1 ≤ place → from ≤ place
  pub inside : place ≤ length marked
  pub is_zero : 1 ≤ place → IsZero before marked place
  pub first : 1 ≤ place → HasNoZero before marked from (place - 1)
  pub none : place ≡ 0 → HasNoZero before marked from (length marked)
