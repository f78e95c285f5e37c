-- What holds of the rows of a timeline.
use Rattle.std.specs.Prelude.{ℕ, ◌<◌, ◌≤◌, List, length}
use Rattle.retro_base.specs.declared.row.Row.{Row}
use Rattle.retro_base.specs.Limits.{most_rows}
use Rattle.retro_base.specs.Order.{Fits}
use Rattle.retro_base.specs.Timeline.{IsFresh, TimesNeverFall, HaveOwnNumbers}

-- at most as many rows as a timeline may have, in order of time, each with a number of its own
pub record IsOrdered (rows : List Row) : Type 0 where
  pub few : length rows ≤ most_rows
  pub in_order : TimesNeverFall rows
  pub own_numbers : HaveOwnNumbers rows

-- a row may come at a place: there is room, its number is fresh, and its time fits
pub record MayCome (rows : List Row) (place : ℕ) (row : Row) : Type 0 where
  pub within : place ≤ length rows
  pub room : length rows < most_rows
  pub fresh : IsFresh row.number rows
  pub fits : Fits rows place row.time
