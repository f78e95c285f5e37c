-- What rows in two parts come to, from what the parts come to.
use Rattle.std.proofs.Common.{◌≡◌, ℕ, ◌+◌, ◌≤◌, ◌++◌, List, [], length, take, ap, sym, ◌∙◌, arith}
use Rattle.std.proofs.lemmas.List.{length-take}
use Rattle.retro_base.specs.declared.row.Entry.{Entry}
use Rattle.retro_base.specs.declared.row.Row.{Row}
use Rattle.retro_base.specs.Limits.{most_rows}
use Rattle.pq_fusion.specs.Pieces.{PieceParts, no_parts, size_of, tolerant, fuse}
use Rattle.pq_fusion.specs.EntryCounts.{left_by}
use Rattle.pq_fusion.proofs.FromRows.{no_more, rows_fuse}
use Rattle.pq_fusion.proofs.Ranges.{take_none}
use Rattle.pq_fusion.proofs.Sizes.{rows_size}

-- they leave no more entries than a timeline has rows
pub left_few : (rows : List Row) (to : ℕ) (left : List Entry) → length rows ≤ most_rows → left ≡ left_by (take to rows) → length left ≤ most_rows
left_few rows to left few is = omega (arith, ap length is, rows_size (take to rows), length-take to rows, few)

-- and none where there are none
pub none_left : (rows : List Row) (to : ℕ) → rows ≡ [] → left_by (take to rows) ≡ []
none_left rows to none = ap (λ (p : PieceParts). p.left) (ap tolerant (ap (take to) none ∙ take_none to) ∙ no_more no_parts)

module _ (before after : List Row) (first second : PieceParts) (first_is : first ≡ tolerant before) (second_is : second ≡ tolerant after) where
  -- the pieces of both parts are small enough to be fused
  pub sides_few : length before + length after ≤ most_rows → size_of first + size_of second ≤ most_rows
  sides_few few = omega (arith, ap size_of first_is, ap size_of second_is, rows_size before, rows_size after, few)

  pub sides_are : (rows : List Row) → rows ≡ before ++ after → fuse first second ≡ tolerant rows
  sides_are rows rows_are = ap (λ p. fuse p second) first_is ∙ ap (fuse (tolerant before)) second_is ∙ sym (rows_fuse before after) ∙ ap tolerant (sym rows_are)
