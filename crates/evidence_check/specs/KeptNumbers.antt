-- What is kept beside marked rows: their numbers.
use Rattle.std.specs.Prelude.{◌≡◌, ℕ, List}
use Rattle.std.specs.BTreeSet.{BTreeSet, contains}
use Rattle.std.specs.Ordering.{nat_cmp}
use Rattle.retro_base.specs.declared.row.Row.{Row}
use Rattle.evidence_check.specs.declared.weighed_row.WeighedRow.{WeighedRow}
use Rattle.evidence_check.specs.Marks.{MarksSurvivors, rows_of}
use Rattle.evidence_check.specs.Truth.{has_number}

-- exactly the numbers of the rows are there
abbrev pub AreNumbers : List Row → BTreeSet ℕ → Type 0
AreNumbers rows numbers = (number : ℕ) → contains nat_cmp numbers number ≡ has_number number rows

-- rows with their marks and their numbers
pub record AreWeighed (marked : List WeighedRow) (numbers : BTreeSet ℕ) : Type 0 where
  pub marks : MarksSurvivors marked
  pub numbers_are : AreNumbers (rows_of marked) numbers
