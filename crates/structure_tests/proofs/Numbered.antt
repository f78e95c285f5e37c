-- A row that draws the next number, where all rows have numbers below it.
use Rattle.std.proofs.Common.{◌≡◌, ◌≢◌, ℕ, ◌+◌, ◌<◌, ◌≤◌, List, length, arith}
use Rattle.std.specs.List.{AllByRecursion, insert}
use Rattle.retro_base.specs.declared.kind.Kind.{Kind}
use Rattle.retro_base.specs.declared.row.Row.{Row}
use Rattle.retro_base.specs.Kind.{kind_of}
use Rattle.retro_base.specs.Limits.{most_rows}
use Rattle.retro_base.specs.OrderLaws.{all_weaker, all_with}
use Rattle.retro_base.specs.Replay.{IsValid}
use Rattle.retro_base.specs.ReplayableLaws.{replayable_with}
use Rattle.retro_base.specs.Timeline.{IsReplayable}

abbrev pub AreBelow : ℕ → List Row → Type 0
AreBelow next rows = AllByRecursion (λ row. row.number < next) rows

-- the next number rises with each row
pub below_with : (rows : List Row) (place next : ℕ) (row : Row) → row.number ≡ next → AreBelow next rows → AreBelow (next + 1) (insert rows place row)
below_with rows place next row is below =
    all_with (λ r. r.number < next + 1) rows place row (all_weaker (λ r. r.number < next) (λ r. r.number < next + 1) rows (λ r low. omega arith) below) (omega (arith, is))

-- and is that of no row before
pub replayable_next : (kind : Kind) (rows : List Row) (place : ℕ) (row : Row) → IsReplayable kind rows → AreBelow row.number rows → length rows < most_rows
    → place ≤ length rows → kind_of row.op ≡ kind → IsValid kind (insert rows place row) → IsReplayable kind (insert rows place row)
replayable_next kind rows place row replayable below room within of_kind valid =
    replayable_with kind rows place row replayable room within
    (all_weaker (λ r. r.number < row.number) (λ r. r.number ≢ row.number) rows (λ r low same. omega arith) below) of_kind valid
