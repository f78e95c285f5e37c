-- Why an item of a deque is found at its ends. An item has a position that never changes: the right end grows over
-- it, or the left one. The row that wrote it is the last one before which the right end did not reach the position,
-- or the last one before which the left end did not: the later of the two, since from then on both do.
--
--     rows       a at the right, b at the left, c at the right, b taken, d at the left
--     positions  a 0             b -1           c 1             -1       d -1
--     position -1 now: the right end always reached it; the left end last did not before d was put there
use Rattle.std.proofs.Common.{◌≡◌, ℕ, ◌<◌, ◌≤◌, ℤ, pos, negsuc, ◌+ℤ◌, ◌-ℤ◌, ◌≤ℤ◌, ◌<ℤ◌, List, length, Option, Some, None, refl, arith, inl, inr, subst}
use Rattle.std.specs.Prelude.{MatchOption}
use Rattle.std.proofs.lemmas.Int.{ints}
use Rattle.retro_base.specs.declared.kind.Kind.TheVariants.{Deque}
use Rattle.retro_base.specs.declared.row.Row.{Row}
use Rattle.retro_base.specs.Timeline.{AreOfKind}
use Rattle.prefix_trees.specs.Growth.{left_growth, right_growth, sign_of, grown}
use Rattle.prefix_trees.specs.Prefixes.{FindsLastAtEither}
use Rattle.prefix_trees.specs.FailureLaws.{LineAt}
use Rattle.prefix_trees.specs.SizeLaws.{both-ends}
use Rattle.prefix_trees.specs.FoundLaws.{FindsWriter}
use Rattle.prefix_trees.specs.WriterLaws.{IsWrittenAt, InsideAfter, written-at}

module _ (rows : List Row) (place index : ℕ) (position : ℤ) (items : List ℤ) (all : AreOfKind Deque rows) (within : place ≤ length rows)
    (at : LineAt Deque rows place items) (there : index < length items) (position_is : position ≡ pos index -ℤ grown left_growth rows place) where
  -- the left end reaches the position after so many rows, and the right end does
  inside : (earlier : ℕ) → (negsuc 0 -ℤ position) <ℤ grown left_growth rows earlier → position <ℤ grown right_growth rows earlier → InsideAfter rows place index earlier
  inside earlier left right = record {
    from_left = omega (arith, ints, left, position_is);
    to_right = omega (arith, ints, right, position_is);
  }

  not_left : (earlier : ℕ) → grown left_growth rows earlier ≤ℤ (negsuc 0 -ℤ position) → InsideAfter rows place index earlier → ⊥
  not_left earlier left inside = omega (arith, ints, left, inside.from_left, position_is)

  not_right : (earlier : ℕ) → grown right_growth rows earlier ≤ℤ position → InsideAfter rows place index earlier → ⊥
  not_right earlier right inside = omega (arith, ints, right, inside.to_right, position_is)

  found : (answer : Option ℕ) → FindsLastAtEither rows place (negsuc 0 -ℤ position) position answer → MatchOption answer ⊥ (IsWrittenAt rows items index)
  found None none = absurd (omega (arith, ints, (none 0 (omega arith)).0, (none 0 (omega arith)).1))
  found (Some written) last =
      written-at Deque tt rows place index items all within at there written last.within
      (λ there. elim last.reached [ inl left ↦ not_left written left there | inr right ↦ not_right written right there ])
      (λ later after below. let above = last.not_after later after below in inside later above.0 above.1)

-- the item at an index was written by the last row from which on the left end grew over the item and those on its left, or the
-- right end over the item and those on its right
pub found-by_ends : (rows : List Row) (place index : ℕ) (at_left at_right : ℤ) (answer : Option ℕ) → AreOfKind Deque rows → place ≤ length rows → pos index <ℤ grown sign_of rows place
    → at_left ≡ pos index +ℤ pos 1 → at_right ≡ grown sign_of rows place -ℤ pos index
    → FindsLastAtEither rows place (grown left_growth rows place -ℤ at_left) (grown right_growth rows place -ℤ at_right) answer → FindsWriter Deque rows place index answer
found-by_ends rows place index at_left at_right answer all within there left_is right_is last items at =
    let position = pos index -ℤ grown left_growth rows place in
    let beside : grown left_growth rows place -ℤ at_left ≡ negsuc 0 -ℤ position = omega (arith, ints, left_is) in
    let above : grown right_growth rows place -ℤ at_right ≡ position = omega (arith, ints, right_is, both-ends rows place) in
    found rows place index position items all within at (omega (arith, ints, at.size, there)) refl answer
    (subst (λ v. FindsLastAtEither rows place v position answer) beside (subst (λ v. FindsLastAtEither rows place (grown left_growth rows place -ℤ at_left) v answer) above last))
