-- A mirror that sees the changes alone holds the present.
use Rattle.std.specs.Prelude.{◌≡◌, ℕ, true, false, List, [], ◌∷◌}
use Rattle.std.specs.Str.{bytes_eq}
use Rattle.retro_base.specs.declared.row.Row.{Row}
use Rattle.retro_base.specs.Bridges.{survivors}
use Rattle.retro_base.specs.Changes.{IsPqChange}
use Rattle.retro_base.specs.Edits.{Edit, edited}
use Rattle.evidence.specs.declared.evidence.Evidence.{Evidence}
use Rattle.followers.specs.Mirrors.{held_after}

-- the events of a name tell the changes of edits that lead from these rows to those; events of other names may stand among them
pub data TellsEdits (name : List ℕ) : List Row → List Evidence → List Row → Type 0 where
  none : (rows : List Row) → TellsEdits name rows [] rows
  own : (rows after : List Row) (edit : Edit) (event : Evidence) (events : List Evidence) → bytes_eq event.name name ≡ true → IsPqChange rows edit event.change
      → TellsEdits name (edited rows edit) events after → TellsEdits name rows (event ∷ events) after
  other : (rows after : List Row) (event : Evidence) (events : List Evidence) → bytes_eq event.name name ≡ false → TellsEdits name rows events after
      → TellsEdits name rows (event ∷ events) after

-- whatever the edits, what was the present before them is the present after them
abbrev pub MirrorsHoldThePresent : Type 0
MirrorsHoldThePresent = (name : List ℕ) (rows after : List Row) (events : List Evidence) → TellsEdits name rows events after
    → held_after name (survivors rows) events ≡ survivors after
