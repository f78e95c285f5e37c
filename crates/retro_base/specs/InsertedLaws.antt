-- Where rows replay with one more among them, there was room for it, its number is none of the others, and it is of their kind.
use Rattle.std.proofs.Common.{◌≡◌, ℕ, ◌<◌, ◌≤◌, List, length, arith}
use Rattle.std.specs.List.{insert}
use Rattle.std.proofs.lemmas.List.Edits.{length-insert}
use Rattle.retro_base.specs.declared.kind.Kind.{Kind}
use Rattle.retro_base.specs.declared.row.Row.{Row}
use Rattle.retro_base.specs.Kind.{kind_of}
use Rattle.retro_base.specs.Limits.{most_rows}
use Rattle.retro_base.specs.MadeEdits.{all_inserted, inserted_is_fresh}
use Rattle.retro_base.specs.Timeline.{IsFresh, IsReplayable}

pub room_for : (kind : Kind) (rows : List Row) (place : ℕ) (row : Row) → place ≤ length rows → IsReplayable kind (insert rows place row) → length rows < most_rows
room_for kind rows place row within replayable = omega (arith, length-insert rows place row within, replayable.few)

pub fresh_for : (kind : Kind) (rows : List Row) (place : ℕ) (row : Row) → IsReplayable kind (insert rows place row) → IsFresh row.number rows
fresh_for kind rows place row replayable = inserted_is_fresh rows place row replayable.own_numbers

pub kind_for : (kind : Kind) (rows : List Row) (place : ℕ) (row : Row) → IsReplayable kind (insert rows place row) → kind_of row.op ≡ kind
kind_for kind rows place row replayable = all_inserted (λ r. kind_of r.op ≡ kind) rows place row replayable.of_kind
