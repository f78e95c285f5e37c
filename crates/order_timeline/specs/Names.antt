-- Names in a list, each with a label.
use Rattle.std.specs.Prelude.{◌≡◌, ◌≢◌, ℕ, Some, List, [], ◌∷◌, length, slice_get}
use Rattle.std.specs.List.{AllByRecursion}

-- no name stands twice
abbrev pub AreDistinct : List ℕ → Type 0
AreDistinct [] = Unit {0}
AreDistinct (name ∷ names) = AllByRecursion (λ other. name ≢ other) names × AreDistinct names

-- the table has the label beside each name
abbrev pub HaveLabels : List ℕ → List ℕ → List ℕ → Type 0
HaveLabels [] labels table = Unit {0}
HaveLabels (name ∷ names) [] table = Unit {0}
HaveLabels (name ∷ names) (label ∷ labels) table = (slice_get table name ≡ Some label) × HaveLabels names labels table

-- distinct names and as many labels side by side, and the table has the label of each name
pub record AreFiled (names labels table : List ℕ) : Type 0 where
  pub each : length labels ≡ length names
  pub distinct : AreDistinct names
  pub filed : HaveLabels names labels table
