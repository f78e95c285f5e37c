-- What a range of signs with marks measures: two walks, that of the signs and that of the marks.
use Rattle.std.specs.Prelude.{◌≡◌, ℕ, ℤ, pos, ◌+ℤ◌, ◌-ℤ◌, Bool, List, take, if◌then◌else◌}
use Rattle.std.specs.List.{slice_range}
use Rattle.std.specs.Int.Signed.{le_z, lt_z}
use Rattle.monoid_laws.specs.Walk.{Walk, one_step, walk_of, lowest_of, height_of}
use Rattle.prefix_trees.specs.SignPrefixes.{signs_of, prefix, marks_in}
use Rattle.prefix_trees.specs.Walks.{one_step-items}

-- one sign with its mark
abbrev pub one_walk : ℤ × Bool → Walk × Walk
one_walk item = (one_step item.0, one_step (pos (if item.1 then 1 else 0)))

pub one_walk-items : (item : ℤ × Bool) → (one_walk item).0.items ≡ 1
one_walk-items item = one_step-items item.0

-- on the way from one place to another the sum falls to the value
abbrev pub falls_to : List (ℤ × Bool) → ℕ → ℤ → ℕ → Bool
falls_to items from value place = le_z (prefix items from +ℤ lowest_of (walk_of (slice_range (signs_of items) from place))) value

-- on the way from a place to another the sum is at the value or below
abbrev pub keeps_at : List (ℤ × Bool) → ℕ → ℤ → ℕ → Bool
keeps_at items to value place = le_z (prefix items to -ℤ height_of (walk_of (slice_range (signs_of items) place to))) value

-- more than k marks stand before a place
abbrev pub has_more_marks : List (ℤ × Bool) → ℤ → ℕ → Bool
has_more_marks items k place = lt_z k (pos (marks_in (take place items)))
