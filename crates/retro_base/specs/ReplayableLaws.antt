-- Rows that replay still do so when a row is put in or taken out that leaves them valid.
use Rattle.std.proofs.Common.{◌≡◌, ℕ, zero, suc, ◌<◌, ◌≤◌, List, [], ◌∷◌, length, arith}
use Rattle.std.specs.List.{insert, remove}
use Rattle.std.proofs.lemmas.List.Edits.{length-insert}
use Rattle.retro_base.specs.declared.kind.Kind.{Kind}
use Rattle.retro_base.specs.declared.row.Row.{Row}
use Rattle.retro_base.specs.Limits.{most_rows}
use Rattle.retro_base.specs.Kind.{kind_of}
use Rattle.retro_base.specs.Replay.{IsValid}
use Rattle.retro_base.specs.Timeline.{IsFresh, IsReplayable}
use Rattle.retro_base.specs.OrderLaws.{all_with, all_without, own_numbers_with, own_numbers_without}

pub replayable_with : (kind : Kind) (rows : List Row) (place : ℕ) (row : Row) → IsReplayable kind rows → length rows < most_rows → place ≤ length rows
    → IsFresh row.number rows → kind_of row.op ≡ kind → IsValid kind (insert rows place row) → IsReplayable kind (insert rows place row)
replayable_with kind rows place row replayable room within fresh of_kind valid = record {
  few = omega (arith, length-insert rows place row within);
  of_kind = all_with (λ r. kind_of r.op ≡ kind) rows place row replayable.of_kind of_kind;
  own_numbers = own_numbers_with rows place row replayable.own_numbers fresh;
  valid = valid;
}

length_without : {X : Type 0} (xs : List X) (place : ℕ) → length (remove xs place) ≤ length xs
length_without [] zero = omega arith
length_without [] (suc place) = omega arith
length_without (x ∷ xs) zero = omega arith
length_without (x ∷ xs) (suc place) = omega (arith, length_without xs place)

-- a history stays one when a row is taken out that leaves it valid
pub replayable_without : (kind : Kind) (rows : List Row) (place : ℕ) → IsReplayable kind rows → IsValid kind (remove rows place) → IsReplayable kind (remove rows place)
replayable_without kind rows place replayable valid = record {
  few = omega (arith, length_without rows place, replayable.few);
  of_kind = all_without (λ r. kind_of r.op ≡ kind) rows place replayable.of_kind;
  own_numbers = own_numbers_without rows place replayable.own_numbers;
  valid = valid;
}
