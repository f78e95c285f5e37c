-- The first rows of a history: they replay as all do, and the next one can be appended.
use Rattle.std.proofs.Common.{◌≡◌, ◌≢◌, ℕ, zero, suc, ◌+◌, List, [], ◌∷◌, take, slice_get, sym, subst, ◌∙◌, arith, Some}
use Rattle.std.specs.List.{insert}
use Rattle.std.proofs.lemmas.List.{length-take}
use Rattle.std.proofs.lemmas.List.Edits.{insert_end}
use Rattle.retro_base.specs.declared.kind.Kind.{Kind}
use Rattle.retro_base.specs.declared.row.Row.{Row}
use Rattle.retro_base.specs.Kind.{kind_of}
use Rattle.retro_base.specs.PrefixLaws.{valid_take, take_more, taken_below}
use Rattle.retro_base.specs.Timeline.{HaveOwnNumbers, IsReplayable}
use Rattle.retro_base.specs.lemmas.Replayable.{all_before}

own_numbers_first : (rows : List Row) (count : ℕ) → HaveOwnNumbers rows → HaveOwnNumbers (take count rows)
own_numbers_first rows zero own = tt
own_numbers_first [] (suc count) own = tt
own_numbers_first (row ∷ rows) (suc count) own = (all_before (λ r. r.number ≢ row.number) rows count own.0, own_numbers_first rows count own.1)

pub replayable_first : (kind : Kind) (rows : List Row) (count : ℕ) → IsReplayable kind rows → IsReplayable kind (take count rows)
replayable_first kind rows count replayable = record {
  few = omega (arith, length-take count rows, replayable.few);
  of_kind = all_before (λ r. kind_of r.op ≡ kind) rows count replayable.of_kind;
  own_numbers = own_numbers_first rows count replayable.own_numbers;
  valid = valid_take kind rows count replayable.valid;
}

pub insert_next : (rows : List Row) (index : ℕ) (row : Row) → slice_get rows index ≡ Some row → insert (take index rows) index row ≡ take (index + 1) rows
insert_next rows index row there =
    subst (λ (i : ℕ). insert (take index rows) i row ≡ take (index + 1) rows) (taken_below rows index row there).0
    (insert_end (take index rows) row ∙ sym (take_more rows index row there))

-- the next row comes to rows that are the first ones
pub next_can_come : (kind other : Kind) (rows first : List Row) (index : ℕ) (row : Row) → other ≡ kind → first ≡ take index rows → IsReplayable kind rows
    → slice_get rows index ≡ Some row → IsReplayable other (insert first index row)
next_can_come kind other rows first index row same is replayable there =
    rw (same, is, insert_next rows index row there) (replayable_first kind rows (index + 1) replayable)
