-- A dictionary whose rows are kept, and into which one more can be put.
use Rattle.std.specs.Prelude.{◌≡◌, ℕ, ◌<◌, length}
use Rattle.retro_base.specs.declared.kind.Kind.TheVariants.{Dict}
use Rattle.retro_base.specs.declared.row.Row.{Row}
use Rattle.retro_base.specs.Kind.{kind_of}
use Rattle.retro_base.specs.Limits.{most_rows}
use Rattle.retro_dictionary.specs.declared.labelled_rows.LabelledRows.{LabelledRows}
use Rattle.retro_dictionary.specs.Edited.{CanInsert}
use Rattle.retro_dictionary.specs.LabelledRows.{AreLabelled}

abbrev pub IsLabelled : LabelledRows → Type 0
IsLabelled kept = AreLabelled kept.rows kept.labels kept.index kept.segments

pub record IsReadyFor (kept : LabelledRows) (place : ℕ) (row : Row) : Type 0 where
  pub all : IsLabelled kept
  pub can : CanInsert kept.rows place row
  pub of_kind : kind_of row.op ≡ Dict
  pub few : length kept.rows < most_rows
