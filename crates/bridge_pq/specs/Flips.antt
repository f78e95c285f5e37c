-- What an edit flips.
use Rattle.std.specs.Prelude.{◌≡◌, List}
use Rattle.retro_base.specs.declared.kind.Kind.TheVariants.{Pq}
use Rattle.retro_base.specs.declared.row.Entry.{Entry}
use Rattle.retro_base.specs.declared.row.Row.{Row}
use Rattle.retro_base.specs.Bridges.{survivors}
use Rattle.retro_base.specs.Changes.{IsPqChange}
use Rattle.retro_base.specs.Edits.{Edit, edited}
use Rattle.retro_base.specs.Timeline.{IsReplayable}
use Rattle.bridge_pq.specs.declared.flip.Flip.{Flip}
use Rattle.bridge_pq.specs.declared.marked_entry.MarkedEntry.{MarkedEntry}
use Rattle.bridge_pq.specs.declared.marked_row.MarkedRow.{MarkedRow}
use Rattle.bridge_pq.specs.Bridged.{AddsAt, Holds, IsFlipped}
use Rattle.bridge_pq.specs.MarkedRows.{rows_of, AreMarked}

-- the change, the place of the flipped entry's row in the rows after the edit, and its mark
pub record Flips (rows : List Row) (edit : Edit) (flip : Flip) : Type 0 where
  pub changes : IsPqChange rows edit flip.change
  pub there : AddsAt (edited rows edit) flip.place flip.entry
  pub marks : IsFlipped (survivors rows) (survivors (edited rows edit)) flip.entry flip.survives

-- rows and entries after an edit, whose marks are still those of before
pub record Unflipped (rows : List Row) (before : List Entry) (items : List MarkedRow) (entries : List MarkedEntry) : Type 0 where
  pub rows_are : rows_of items ≡ rows
  pub replayable : IsReplayable Pq rows
  pub marked : AreMarked before items
  pub holds : Holds rows before entries

-- this flip is what they lack
pub record Lacks (items : List MarkedRow) (entries : List MarkedEntry) (flip : Flip) : Type 0 where
  pub rows : List Row
  pub before : List Entry
  pub unflipped : Unflipped rows before items entries
  pub there : AddsAt rows flip.place flip.entry
  pub marks : IsFlipped before (survivors rows) flip.entry flip.survives
