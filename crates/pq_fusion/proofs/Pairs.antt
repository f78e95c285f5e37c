-- What is known of the root of a tree of rows: of a run, and of a pair and its sides.
use Rattle.std.proofs.Common.{◌≡◌, ℕ, ◌+◌, ◌-◌, ◌<◌, ◌≤◌, List, ◌++◌, length, take, drop, ap, sym, ◌∙◌, arith, length-append}
use Rattle.std.specs.List.{slice_range}
use Rattle.retro_base.specs.declared.row.Row.{Row}
use Rattle.retro_base.specs.Limits.{most_rows}
use Rattle.pq_fusion.specs.declared.subtree.Pair.{Pair}
use Rattle.pq_fusion.specs.declared.subtree.Run.{Run}
use Rattle.pq_fusion.specs.Nodes.{IsRunOf, IsPairOf}
use Rattle.pq_fusion.specs.Pieces.{tolerant}
use Rattle.pq_fusion.proofs.Ranges.{take-later, drop-earlier, drop-later, range-later, range-across}

module _ (rows : List Row) (run : Run) (root : IsRunOf rows run) where
  pub run_piece_is : run.piece ≡ tolerant rows
  run_piece_is = root.sound.piece_is ∙ sym (ap tolerant root.rows_are)

  pub run_few : length rows ≤ 64
  run_few = omega (arith, ap length root.rows_are, root.sound.few)

  pub run_some : 0 < length rows
  run_some = omega (arith, ap length root.rows_are, root.sound.some)

module _ (rows : List Row) (pair : Pair) (root : IsPairOf rows pair) where
  pub sizes : length rows ≡ length pair.earlier.rows + length pair.later.rows
  sizes = omega (arith, ap length root.rows_are, length-append pair.earlier.rows pair.later.rows)

  pub few : length rows ≤ most_rows
  few = omega (arith, ap length root.rows_are, root.sound.few)

  pub size_is : pair.size ≡ length rows
  size_is = root.sound.size_is ∙ sym (ap length root.rows_are)

  pub piece_is : pair.piece ≡ tolerant rows
  piece_is = root.sound.piece_is ∙ sym (ap tolerant root.rows_are)

  pub some_earlier : 0 < length pair.earlier.rows
  some_earlier = omega (arith, root.sound.balanced.earlier_light, root.sound.balanced.later_light)

  pub some_later : 0 < length pair.later.rows
  some_later = omega (arith, root.sound.balanced.earlier_light, root.sound.balanced.later_light)

  -- the first rows, the last ones, and those between two places
  module _ (own : ℕ) (own_is : own ≡ length pair.earlier.rows) where
    pub take_later : (to : ℕ) → own ≤ to → take to rows ≡ pair.earlier.rows ++ take (to - own) pair.later.rows
    take_later to beyond = ap (take to) root.rows_are ∙ take-later pair.earlier.rows pair.later.rows own own_is to beyond

    pub drop_earlier : (from : ℕ) → from ≤ own → drop from rows ≡ drop from pair.earlier.rows ++ pair.later.rows
    drop_earlier from within = ap (drop from) root.rows_are ∙ drop-earlier pair.earlier.rows pair.later.rows own own_is from within

    pub drop_later : (from : ℕ) → own ≤ from → drop from rows ≡ drop (from - own) pair.later.rows
    drop_later from beyond = ap (drop from) root.rows_are ∙ drop-later pair.earlier.rows pair.later.rows own own_is from beyond

    pub range_later : (from to : ℕ) → own ≤ from → slice_range rows from to ≡ slice_range pair.later.rows (from - own) (to - own)
    range_later from to beyond = ap (λ l. slice_range l from to) root.rows_are ∙ range-later pair.earlier.rows pair.later.rows own own_is from to beyond

    pub range_across : (from to : ℕ) → from ≤ own → own ≤ to → slice_range rows from to ≡ drop from pair.earlier.rows ++ take (to - own) pair.later.rows
    range_across from to within beyond =
        ap (λ l. slice_range l from to) root.rows_are ∙ range-across pair.earlier.rows pair.later.rows own own_is from to within beyond
