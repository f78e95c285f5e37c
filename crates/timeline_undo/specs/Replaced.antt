-- The rows after a row was replaced, and its two edits.
use Rattle.std.specs.Prelude.{◌≡◌, ℕ, suc, ◌-◌, ◌≤◌, nat_le, List, ◌∷◌, ◌++◌, length, take, drop, slice_get, slice_range, Some, if◌then◌else◌}
use Rattle.retro_base.specs.declared.kind.Kind.{Kind}
use Rattle.retro_base.specs.declared.row.Row.{Row}
use Rattle.retro_base.specs.Edits.{Step}
use Rattle.retro_base.specs.Kind.{adds, kind_of}
use Rattle.timeline_undo.specs.declared.replacement.Replacement.{Replacement}
use Rattle.retro_base.specs.declared.target.Target.{Target}
use Rattle.retro_base.specs.Shift.{place_for, put_then_cut, cut_then_put, replacing}

-- the new row stands after so many of the present rows, the old one among them
abbrev pub replacement_of : List Row → Target → ℕ → ℕ → Row → Replacement
replacement_of rows target number index old =
    record { index = index; old = old; before = place_for target index rows; new = replacing target number old }

-- the old row stands at its index, and the new one comes at a place among the rows and is of the kind
pub record Replaces (kind : Kind) (rows : List Row) (r : Replacement) : Type 0 where
  pub there : slice_get rows r.index ≡ Some r.old
  pub within : r.before ≤ length rows
  pub of_kind : kind_of r.new.op ≡ kind

-- so many of the rows without the old one stand before the new row
abbrev pub before_without : ℕ → ℕ → ℕ
before_without index before = if nat_le before index then before else before - 1

abbrev pub step_of_replacement : Replacement → Step
step_of_replacement r =
    if adds r.new.op then put_then_cut r.before r.new r.index r.old
    else cut_then_put r.index r.old (before_without r.index r.before) r.new

-- the rows after the replacement
abbrev pub replaced : List Row → Replacement → List Row
replaced rows r =
    if nat_le r.before r.index
    then take r.before rows ++ r.new ∷ (slice_range rows r.before r.index ++ drop (suc r.index) rows)
    else take r.index rows ++ (slice_range rows (suc r.index) r.before ++ r.new ∷ drop r.before rows)
