-- What a link of the tree of rows leads to.
use Rattle.std.specs.Prelude.{◌≡◌, ℕ, zero, suc, ◌+◌, ◌*◌, ◌<◌, ◌≤◌, List, [], ◌++◌, length}
use Rattle.retro_base.specs.declared.kind.Kind.TheVariants.{Pq}
use Rattle.retro_base.specs.declared.row.Row.{Row}
use Rattle.retro_base.specs.Limits.{most_rows}
use Rattle.retro_base.specs.Timeline.{AreOfKind}
use Rattle.pq_fusion.specs.declared.subtree.Link.{Link}
use Rattle.pq_fusion.specs.declared.subtree.Link.TheVariants.{Empty, Leaf, Fork}
use Rattle.pq_fusion.specs.declared.subtree.Pair.{Pair}
use Rattle.pq_fusion.specs.declared.subtree.Run.{Run}
use Rattle.pq_fusion.specs.Pieces.{tolerant}
use Rattle.pq_fusion.specs.Wear.{WornRows, joined, unworn}

-- a run has so many rows at most
abbrev pub longest_run : ℕ
longest_run = 64

-- the weight of a subtree: its size and one
abbrev pub weight : List Row → ℕ
weight rows = length rows + 1

-- neither side has 3 times as many rows as the other, so neither has none
pub record IsBalanced (earlier later : ℕ) : Type 0 where
  pub earlier_light : earlier < 3 * later
  pub later_light : later < 3 * earlier

-- the rows below a pair, in order
abbrev pub pair_rows : Pair → List Row
pair_rows pair = pair.earlier.rows ++ pair.later.rows

-- and the wear of both sides, and of the pair
abbrev pub pair_part : Pair → WornRows
pair_part pair = joined pair.earlier pair.later

-- what a link leads to: a run has no wear
abbrev pub part_of : Link → WornRows
part_of Empty = unworn []
part_of (Leaf run) = unworn run.value.rows.items
part_of (Fork pair) = pair_part pair.value

-- a run has some rows and not too many, and the piece is what they come to
pub record IsRun (run : Run) : Type 0 where
  pub some : 0 < length run.rows.items
  pub few : length run.rows.items ≤ longest_run
  pub piece_is : run.piece ≡ tolerant run.rows.items
  pub of_kind : AreOfKind Pq run.rows.items

-- the size and the piece are those of the rows below the pair, whose sides are in balance
pub record IsPair (pair : Pair) : Type 0 where
  pub size_is : pair.size ≡ length (pair_rows pair)
  pub piece_is : pair.piece ≡ tolerant (pair_rows pair)
  pub balanced : IsBalanced (length pair.earlier.rows) (length pair.later.rows)
  pub of_kind : AreOfKind Pq (pair_rows pair)
  pub few : length (pair_rows pair) ≤ most_rows

-- the run, or the pair, is the root of a tree of these rows
pub record IsRunOf (rows : List Row) (run : Run) : Type 0 where
  pub rows_are : rows ≡ run.rows.items
  pub sound : IsRun run

pub record IsPairOf (rows : List Row) (pair : Pair) : Type 0 where
  pub rows_are : rows ≡ pair_rows pair
  pub sound : IsPair pair

-- what a link leads to is as it says
abbrev pub IsSound : Link → Type 0
IsSound Empty = Unit {0}
IsSound (Leaf run) = IsRun run.value
IsSound (Fork pair) = IsPair pair.value

-- a balanced tree of this weight has no path of more levels: a side weighs at most 3 quarters of the whole
abbrev pub IsWithinLevels : ℕ → ℕ → Type 0
IsWithinLevels whole zero = whole ≤ 1
IsWithinLevels whole (suc levels) = (side : ℕ) → 4 * side ≤ 3 * whole → IsWithinLevels side levels
