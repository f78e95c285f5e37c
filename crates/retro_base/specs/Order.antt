-- Where a row of a time can stand.
use Rattle.std.specs.Prelude.{ℕ, zero, suc, ◌≤◌, List, [], ◌∷◌}
use Rattle.std.specs.List.{AllByRecursion}
use Rattle.retro_base.specs.declared.row.Row.{Row}

-- a row of this time can stand at this place: no row before the place is later, and none after it is earlier
abbrev pub Fits : List Row → ℕ → ℕ → Type 0
Fits rows zero time = AllByRecursion (λ row. time ≤ row.time) rows
Fits [] (suc place) time = Unit {0}
Fits (row ∷ rows) (suc place) time = (row.time ≤ time) × Fits rows place time
