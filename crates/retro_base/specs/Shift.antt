-- A row that is replaced in one step: by its operation at another time, or by another operation at its own place.
use Rattle.std.specs.Prelude.{◌≡◌, ℕ, ◌+◌, nat_le, List, [], ◌∷◌, slice_get, if◌then◌else◌}
use Rattle.std.specs.Prelude.{Option, option_map}
use Rattle.std.specs.List.{remove}
use Rattle.retro_base.specs.declared.kind.Kind.{Kind}
use Rattle.retro_base.specs.declared.row.Row.{Row}
use Rattle.retro_base.specs.Edits.{Step, add, cut}
use Rattle.retro_base.specs.Kind.{adds, kind_of}
use Rattle.retro_base.specs.Places.{place_of_time}
use Rattle.retro_base.specs.declared.target.Target.{Target}
use Rattle.retro_base.specs.declared.target.Target.TheVariants.{At, Into}

-- what the row becomes is of the kind
abbrev pub IsTargetOf : Kind → Target → Type 0
IsTargetOf kind (At time) = Unit {0}
IsTargetOf kind (Into op) = kind_of op ≡ kind

-- the row that replaces a row, with a number of its own: the operation is kept, or the time
abbrev pub replacing : Target → ℕ → Row → Row
replacing (At time) number old = record { number = number; time = time; op = old.op }
replacing (Into op) number old = record { number = number; time = old.time; op = op }

-- where it is put in: after all rows up to its time, or at the index of the old row
abbrev pub place_for : Target → ℕ → List Row → ℕ
place_for (At time) index rows = place_of_time time rows
place_for (Into op) index rows = index

-- the index of a row once another one was put in
abbrev pub index_after : ℕ → ℕ → ℕ
index_after put index = if nat_le put index then index + 1 else index

-- the new row is put in first, and the old one is cut then
abbrev pub put_then_cut : ℕ → Row → ℕ → Row → Step
put_then_cut put new index old = add put new ∷ cut (index_after put index) old ∷ []

-- the old row is cut first, and the new one is put in then
abbrev pub cut_then_put : ℕ → Row → ℕ → Row → Step
cut_then_put index old put new = cut index old ∷ add put new ∷ []

-- the step that replaces the row at an index: a new row that adds is put in among the rows with the old one, one that takes among
-- those without it
abbrev pub shift_of : List Row → Target → ℕ → ℕ → Row → Step
shift_of rows target number index old =
    if adds (replacing target number old).op then put_then_cut (place_for target index rows) (replacing target number old) index old
    else cut_then_put index old (place_for target index (remove rows index)) (replacing target number old)

-- the same, where there is a row at the index
abbrev pub shift_at : List Row → Target → ℕ → ℕ → Option Step
shift_at rows target number index = option_map (shift_of rows target number index) (slice_get rows index)
