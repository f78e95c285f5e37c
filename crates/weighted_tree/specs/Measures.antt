-- What a tree measures of a list, in the words of its items' traits.
use Rattle.std.specs.Prelude.{ℕ, List, take}
use Rattle.std.specs.List.{slice_range}
use Rattle.monoids.specs.Measure.{measure_of}
use Rattle.monoids.specs.declared.monoid.Measured as Measured
use Rattle.monoids.specs.declared.monoid.Monoid as Monoid
use Rattle.weighted_tree.specs.Sides.{join_from}
use Rattle.weighted_tree.specs.declared.node.Side.{Side}

-- the measures of the items, joined
abbrev pub measure_in : {A M : Type 0} → Measured.Ghosts A M → Monoid.Ghosts M → List A → M
measure_in measured monoid items = measure_of monoid.unit_value monoid.joined measured.measured items

-- of the items from `from` to before a place
abbrev pub from_place : {A M : Type 0} → Measured.Ghosts A M → Monoid.Ghosts M → List A → ℕ → ℕ → M
from_place measured monoid items from place = measure_in measured monoid (slice_range items from place)

-- of the items from a place to before `to`
abbrev pub up_to_place : {A M : Type 0} → Measured.Ghosts A M → Monoid.Ghosts M → List A → ℕ → ℕ → M
up_to_place measured monoid items to place = measure_in measured monoid (slice_range items place to)

-- of items as they stand from a side
abbrev pub measure_seen : {A M : Type 0} → Side → Measured.Ghosts A M → Monoid.Ghosts M → List A → M
measure_seen side measured monoid items = measure_of monoid.unit_value (join_from side monoid.joined) measured.measured items

-- what was passed before, joined with so many of these items
abbrev pub passing : {A M : Type 0} → Side → Measured.Ghosts A M → Monoid.Ghosts M → M → List A → ℕ → M
passing side measured monoid before items count = join_from side monoid.joined before (measure_seen side measured monoid (take count items))
