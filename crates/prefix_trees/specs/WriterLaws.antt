-- Which row wrote an item of the line at a place.
use Rattle.std.proofs.Common.{◌≡◌, ℕ, ◌<◌, ◌≤◌, ℤ, pos, ◌+ℤ◌, ◌-ℤ◌, List, [], take, length, Some, ap, ◌∙◌, arith, length-take-le}
use Rattle.std.specs.Prelude.{slice_get}
use Rattle.std.proofs.lemmas.Int.{ints}
use Rattle.retro_base.specs.declared.kind.Kind.{Kind}
use Rattle.retro_base.specs.declared.row.Row.{Row}
use Rattle.retro_base.specs.Timeline.{AreOfKind}
use Rattle.prefix_trees.specs.Growth.{IsLine, left_growth, right_growth, value_of, grown}
use Rattle.prefix_trees.specs.PositionLaws.{IsInside, written_from}
use Rattle.prefix_trees.specs.FailureLaws.{LineAt, grown-take}
use Rattle.std.proofs.lemmas.Option.{slice_get_within}
use Rattle.retro_base.specs.Facts.{get_taken, one_at}
use Rattle.retro_base.specs.Kind.{kind_of}
use Rattle.retro_base.specs.lemmas.Replayable.{all_before}
use Rattle.monoid_laws.specs.SummedLaws.{zero_add}

-- the row at the place wrote the item at the index
pub record IsWrittenAt (rows : List Row) (items : List ℤ) (index place : ℕ) : Type 0 where
  pub there : index < length items
  pub within : place < length rows
  pub writes : (row : Row) → slice_get rows place ≡ Some row → slice_get items index ≡ value_of row.op

-- after so many rows, the position of the item at the index of the line at a place is between the ends
abbrev pub InsideAfter : List Row → ℕ → ℕ → ℕ → Type 0
InsideAfter rows place index earlier = IsInside (grown left_growth rows earlier) (grown right_growth rows earlier) (pos index -ℤ grown left_growth rows place)

module _ (kind : Kind) (line : IsLine kind) (rows : List Row) (place index : ℕ) (items : List ℤ) (all : AreOfKind kind rows) (within : place ≤ length rows)
    (at : LineAt kind rows place items) (there : index < length items) where
  -- the ends of the first rows stand where those of all rows do
  left_end : (earlier : ℕ) → earlier ≤ place → pos 0 +ℤ grown left_growth (take place rows) earlier ≡ grown left_growth rows earlier
  left_end earlier before = zero_add (grown left_growth (take place rows) earlier) ∙ grown-take left_growth rows place earlier before

  right_end : (earlier : ℕ) → earlier ≤ place → pos 0 +ℤ grown right_growth (take place rows) earlier ≡ grown right_growth rows earlier
  right_end earlier before = zero_add (grown right_growth (take place rows) earlier) ∙ grown-take right_growth rows place earlier before

  size : length (take place rows) ≡ place
  size = length-take-le place rows within

  -- it was written by the row at the last place at which its position was outside
  pub written-at : (written : ℕ) → written ≤ place → (InsideAfter rows place index written → ⊥) → ((later : ℕ) → written < later → later ≤ place → InsideAfter rows place index later)
      → IsWrittenAt rows items index written
  written-at written before outside inside =
      let found = written_from kind line (pos index -ℤ grown left_growth rows place) (take place rows) (pos 0) (pos 0) [] items index written (all_before (λ row. kind_of row.op ≡ kind) rows place all) at.replayed (omega (arith, ints)) there
      (omega (arith, ints, ap (grown left_growth (take place rows)) size, grown-take left_growth rows place place (omega arith)))
      (omega (arith, size))
      (λ there. outside (rw (← left_end written before, ← right_end written before) there))
      (λ later after below. let early : later ≤ place = omega (arith, size) in rw (left_end later early, right_end later early) (inside later after early)) in
      let row = get_taken rows place written found.0 found.1 in
      record {
        there = there;
        within = slice_get_within rows written found.0 row;
        writes = λ other is. found.2 ∙ ap (λ (r : Row). value_of r.op) (one_at rows written found.0 other row is);
      }
