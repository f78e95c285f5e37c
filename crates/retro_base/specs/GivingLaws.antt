-- Laws on edits that give: a row that adds is put in, or one that takes is taken out. Rows that replay whole still do.
use Rattle.std.specs.Prelude.{◌≡◌, ℕ, true, false, List, slice_get, Some}
use Rattle.std.specs.List.{insert, remove}
use Rattle.retro_base.specs.declared.kind.Kind.{Kind}
use Rattle.retro_base.specs.declared.row.Row.{Row}
use Rattle.retro_base.specs.Kind.{adds, kind_of}
use Rattle.retro_base.specs.Replay.{IsValid}
use Rattle.retro_base.specs.Timeline.{AreOfKind}

-- a row that adds may be put in at any place
abbrev pub AddingRowReplays : Type 0
AddingRowReplays = (kind : Kind) (rows : List Row) (place : ℕ) (row : Row) → AreOfKind kind rows → IsValid kind rows
    → kind_of row.op ≡ kind → adds row.op ≡ true → IsValid kind (insert rows place row)

-- a row that takes may be taken out
abbrev pub TakingRowCanGo : Type 0
TakingRowCanGo = (kind : Kind) (rows : List Row) (place : ℕ) (row : Row) → AreOfKind kind rows → IsValid kind rows
    → slice_get rows place ≡ Some row → adds row.op ≡ false → IsValid kind (remove rows place)
