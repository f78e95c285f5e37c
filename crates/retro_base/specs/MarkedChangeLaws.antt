-- The law on what is read off the marks: it is the change, or none exactly where the edit is refused.
use Rattle.std.specs.Prelude.{◌≡◌, List}
use Rattle.std.specs.Prelude.{Option, Some, None}
use Rattle.retro_base.specs.declared.kind.Kind.TheVariants.{Pq}
use Rattle.retro_base.specs.declared.row.Change.{Change}
use Rattle.retro_base.specs.declared.row.Row.{Row}
use Rattle.retro_base.specs.Replay.{failure}
use Rattle.retro_base.specs.Edits.{Edit, edited, IsAccepted}
use Rattle.retro_base.specs.Carried.{IsPqEdit}
use Rattle.retro_base.specs.Changes.{IsPqChange}
use Rattle.retro_base.specs.MarkedChange.{marked_change, marked_failure}

-- a change that is read is that of an accepted edit; where none is read the rows after the edit fail
abbrev pub IsRightOf : List Row → Edit → Option Change → Type 0
IsRightOf rows edit None = failure Pq (edited rows edit) ≡ Some (marked_failure rows edit)
IsRightOf rows edit (Some change) = IsAccepted Pq rows edit × IsPqChange rows edit change

abbrev pub MarksTellTheChange : Type 0
MarksTellTheChange = (rows : List Row) (edit : Edit) → IsPqEdit rows edit → IsRightOf rows edit (marked_change rows edit)
