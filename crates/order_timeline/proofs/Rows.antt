-- Rows stay in order where one comes whose time fits, and where one goes.
use Rattle.std.proofs.Common.{◌≡◌, ℕ, ◌+◌, ◌<◌, ◌≤◌, List, ◌++◌, map, take, drop, length, sym, ap, ◌∙◌, subst, arith}
use Rattle.std.specs.List.{insert, remove}
use Rattle.std.proofs.lemmas.List.{map-id, length-take-le, length-map, length-drop, length-append}
use Rattle.std.proofs.Math.Seq.{take-append_seam}
use Rattle.std.proofs.lemmas.List.Edits.{length-insert, length-remove}
use Rattle.weighted_tree.specs.Reads.{overwritten}
use Rattle.retro_base.specs.declared.row.Row.{Row}
use Rattle.retro_base.specs.Limits.{most_rows}
use Rattle.retro_base.specs.Order.{Fits}
use Rattle.retro_base.specs.OrderLaws.{times_with, times_without, own_numbers_with, own_numbers_without}
use Rattle.retro_base.specs.Timeline.{IsFresh}
use Rattle.order_timeline.specs.Rows.{IsOrdered}

pub ordered_with : (rows : List Row) (place : ℕ) (row : Row) → IsOrdered rows → place ≤ length rows → length rows < most_rows
    → IsFresh row.number rows → Fits rows place row.time → IsOrdered (insert rows place row)
ordered_with rows place row ordered within room fresh fits = record {
  few = omega (arith, length-insert rows place row within);
  in_order = times_with rows place row ordered.in_order fits;
  own_numbers = own_numbers_with rows place row ordered.own_numbers fresh;
}

pub ordered_without : (rows : List Row) (place : ℕ) → IsOrdered rows → place < length rows → IsOrdered (remove rows place)
ordered_without rows place ordered within = record {
  few = omega (arith, length-remove rows place within, ordered.few);
  in_order = times_without rows place ordered.in_order;
  own_numbers = own_numbers_without rows place ordered.own_numbers;
}

-- where the row has just come
pub ordered_more : (rows more : List Row) (place : ℕ) (row item : Row) → item ≡ row → more ≡ insert rows place item → IsOrdered rows → place ≤ length rows → length rows < most_rows
    → IsFresh row.number rows → Fits rows place row.time → IsOrdered more
ordered_more rows more place row item same is ordered within room fresh fits =
    subst IsOrdered (sym (is ∙ ap (insert rows place) same)) (ordered_with rows place row ordered within room fresh fits)

-- rows that were written as they are
pub read_is : (rows former new : List Row) (count : ℕ) → count ≤ length rows → new ≡ overwritten former 0 (map (λ (row : Row). row) (take count rows)) → new ≡ take count rows ++ drop count former
read_is rows former new count within is =
    is ∙ ap (λ rs. rs ++ drop (0 + length rs) former) (map-id (take count rows))
    ∙ ap (λ n. take count rows ++ drop n former) (let all : 0 + length (take count rows) ≡ count = omega (arith, length-take-le count rows within) in all)

-- the numbers of rows that were written into a window
pub numbers_read : (rows : List Row) (place count : ℕ) (former new : List ℕ) → count ≤ length (drop place rows) → new ≡ overwritten former 0 (map (λ (row : Row). row.number) (take count (drop place rows)))
    → take count new ≡ map (λ (row : Row). row.number) (take count (drop place rows))
numbers_read rows place count former new few is =
    let fresh = map (λ (row : Row). row.number) (take count (drop place rows)) in
    let long : length fresh ≡ count = length-map (take count (drop place rows)) (λ (row : Row). row.number) ∙ length-take-le count (drop place rows) few in
    ap (take count) is ∙ ap (λ n. take n (fresh ++ drop (0 + length fresh) former)) (sym long) ∙ take-append_seam fresh (drop (0 + length fresh) former)

-- the window is as long as before
pub window_stays : (rows : List Row) (place count : ℕ) (former new : List ℕ) → count ≤ length (drop place rows) → count ≤ length former
    → new ≡ overwritten former 0 (map (λ (row : Row). row.number) (take count (drop place rows))) → length new ≡ length former
window_stays rows place count former new few room is =
    let fresh = map (λ (row : Row). row.number) (take count (drop place rows)) in
    omega (
      arith,
      ap length is,
      length-append fresh (drop (0 + length fresh) former),
      length-drop (0 + length fresh) former,
      length-map (take count (drop place rows)) (λ (row : Row). row.number),
      length-take-le count (drop place rows) few,
    )
