-- Rows beside their labels.
use Rattle.std.specs.Prelude.{ℕ, List, [], ◌∷◌}
use Rattle.retro_base.specs.declared.row.Row.{Row}
use Rattle.key_index.specs.KeyRows.{KeyRow}

-- each row's operation beside its label
abbrev pub labelled : List ℕ → List Row → List KeyRow
labelled [] rows = []
labelled (label ∷ labels) [] = []
labelled (label ∷ labels) (row ∷ rows) = (label, row.op) ∷ labelled labels rows
