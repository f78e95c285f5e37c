-- Who wrote an item. The items of a line stand at positions that never change while they are there: with
-- `left` the growth at the left end so far and `right` that at the right end, they stand from -left to right - 1.
--
--     left end   growth 2            growth 3       right end
--                 |  b  a |  c  d  e  |
--     position   -2 -1      0  1  2
--
-- A position that is inside now, and was outside at some earlier place, was written by the row at the last
-- such place: that row made its end grow over it, and no row since has taken it. So the later of two rows wrote
-- it, the last one in front of which the right end did not reach the position, and the last one in front of which
-- the left end did not.
use Rattle.std.proofs.Common.{◌≡◌, ℕ, zero, suc, ◌<◌, ◌≤◌, ℤ, pos, negsuc, ◌+ℤ◌, ◌<ℤ◌, ◌≤ℤ◌, List, [], ◌∷◌, length, Some, Ok, refl, sym, ap, ◌∙◌, arith, subst}
use Rattle.std.specs.Prelude.{slice_get}
use Rattle.std.proofs.lemmas.Int.{ints}
use Rattle.retro_base.specs.declared.kind.Kind.{Kind}
use Rattle.retro_base.specs.declared.row.Row.{Row}
use Rattle.retro_base.specs.Kind.{kind_of}
use Rattle.retro_base.specs.State.{items, step}
use Rattle.retro_base.specs.lemmas.Folds.{ok_same, fold_rows-nil}
use Rattle.retro_base.specs.Replay.{run}
use Rattle.retro_base.specs.Timeline.{AreOfKind}
use Rattle.prefix_trees.specs.Growth.{IsLine, left_growth, right_growth, value_of, grown}
use Rattle.prefix_trees.specs.LineLaws.{Moves, line_step, run-first}

-- the position is between the ends
pub record IsInside (left right position : ℤ) : Type 0 where
  pub from_left : pos 0 ≤ℤ (left +ℤ position)
  pub to_right : position <ℤ right

natural : (z : ℤ) → pos 0 ≤ℤ z → (n : ℕ) × (pos n ≡ z)
natural (pos n) h = (n, refl)
natural (negsuc n) h = absurd (omega (arith, ints))

items_same : (xs ys : List ℤ) → items xs ≡ items ys → xs ≡ ys
items_same xs ys same = cc

-- a row of a line of items, and the others after it
record FirstRow (row : Row) (rows : List Row) (xs zs : List ℤ) : Type 0 where
  next : List ℤ
  move : Moves (left_growth row.op) (right_growth row.op) (value_of row.op) xs next
  others : run rows (items next) ≡ Ok (items zs)

first_row : (kind : Kind) (row : Row) (rows : List Row) (xs zs : List ℤ) → IsLine kind → kind_of row.op ≡ kind → run (row ∷ rows) (items xs) ≡ Ok (items zs)
    → FirstRow row rows xs zs
first_row kind row rows xs zs line of_kind is =
    let first = run-first row rows (items xs) (items zs) is in
    let moved = line_step row.op row.number xs first.0 (subst IsLine (sym of_kind) line) first.1 in
    record {
      next = moved.0;
      move = moved.2;
      others = ap (run rows) (sym moved.1) ∙ first.2;
    }

end_is : (xs zs : List ℤ) → run [] (items xs) ≡ Ok (items zs) → xs ≡ zs
end_is xs zs is = items_same xs zs (ok_same _ (fold_rows-nil step (items xs)) is)

module _ (kind : Kind) (line : IsLine kind) (position : ℤ) where
  -- the position is inside after so many rows, where the ends stood at these growths before
  abbrev InsideAt : ℤ → ℤ → List Row → ℕ → Type 0
  InsideAt left right rows place = IsInside (left +ℤ grown left_growth rows place) (right +ℤ grown right_growth rows place) position

  inside_after : (left right : ℤ) (row : Row) (rows : List Row) (place : ℕ) → InsideAt left right (row ∷ rows) (suc place) → InsideAt (left +ℤ left_growth row.op) (right +ℤ right_growth row.op) rows place
  inside_after left right row rows place inside = record {
    from_left = omega (arith, ints, inside.from_left);
    to_right = omega (arith, ints, inside.to_right);
  }

  inside_first : (left right : ℤ) (row : Row) (rows : List Row) (place : ℕ) → InsideAt (left +ℤ left_growth row.op) (right +ℤ right_growth row.op) rows place → InsideAt left right (row ∷ rows) (suc place)
  inside_first left right row rows place inside = record {
    from_left = omega (arith, ints, inside.from_left);
    to_right = omega (arith, ints, inside.to_right);
  }

  size_next : (left right : ℤ) (row : Row) (xs next : List ℤ) → Moves (left_growth row.op) (right_growth row.op) (value_of row.op) xs next → pos (length xs) ≡ left +ℤ right
      → pos (length next) ≡ (left +ℤ left_growth row.op) +ℤ (right +ℤ right_growth row.op)
  size_next left right row xs next move size = omega (arith, ints, move.size, size)

  -- while a position stays inside, its item stays
  untouched : (rows : List Row) (left right : ℤ) (xs zs : List ℤ) (i j : ℕ) → AreOfKind kind rows → run rows (items xs) ≡ Ok (items zs) → pos (length xs) ≡ left +ℤ right
      → ((place : ℕ) → place ≤ length rows → InsideAt left right rows place)
      → pos i ≡ left +ℤ position → pos j ≡ (left +ℤ grown left_growth rows (length rows)) +ℤ position → slice_get zs j ≡ slice_get xs i
  untouched [] left right xs zs i j all is size inside at end =
      ap (λ ys. slice_get ys j) (sym (end_is xs zs is)) ∙ ap (slice_get xs) (let same : j ≡ i = omega (arith, ints) in same)
  untouched (row ∷ rows) left right xs zs i j all is size inside at end =
      let first = first_row kind row rows xs zs line all.0 is in
      let next = inside_after left right row rows 0 (inside 1 (omega arith)) in
      let now = inside 0 (omega arith) in
      let middle = natural ((left +ℤ left_growth row.op) +ℤ position) (omega (arith, ints, next.from_left)) in
      let size' = size_next left right row xs first.next first.move size in
      untouched rows (left +ℤ left_growth row.op) (right +ℤ right_growth row.op) first.next zs middle.0 j all.1 first.others size'
      (λ place within. inside_after left right row rows place (inside (suc place) (omega arith)))
      middle.1
      (omega (arith, ints, end))
      ∙ first.move.kept i middle.0 (omega (arith, ints, at, size, now.to_right)) (omega (arith, ints, middle.1, size', next.to_right)) (omega (arith, ints, middle.1, at))

  -- what stands there was written by the row at the last place at which the position was outside
  pub written_from : (rows : List Row) (left right : ℤ) (xs zs : List ℤ) (j place : ℕ) → AreOfKind kind rows → run rows (items xs) ≡ Ok (items zs) → pos (length xs) ≡ left +ℤ right
      → j < length zs → pos j ≡ (left +ℤ grown left_growth rows (length rows)) +ℤ position
      → place ≤ length rows → (InsideAt left right rows place → ⊥) → ((later : ℕ) → place < later → later ≤ length rows → InsideAt left right rows later)
      → (row : Row) × (slice_get rows place ≡ Some row) × (slice_get zs j ≡ value_of row.op)
  written_from [] left right xs zs j place all is size within at place_within outside inside =
      let empty : place ≡ 0 = omega arith in
      let same = end_is xs zs is in
      absurd (outside (subst (InsideAt left right []) (sym empty) (record {
        from_left = omega (arith, ints, at);
        to_right = omega (arith, ints, at, size, ap length same);
      })))
  written_from (row ∷ rows) left right xs zs j zero all is size within at place_within outside inside =
      let first = first_row kind row rows xs zs line all.0 is in
      let next = inside_after left right row rows 0 (inside 1 (omega arith) (omega arith)) in
      let middle = natural ((left +ℤ left_growth row.op) +ℤ position) (omega (arith, ints, next.from_left)) in
      let size' = size_next left right row xs first.next first.move size in (
        row,
        refl,
        untouched rows (left +ℤ left_growth row.op) (right +ℤ right_growth row.op) first.next zs middle.0 j all.1 first.others size'
            (λ later below. inside_after left right row rows later (inside (suc later) (omega arith) (omega arith)))
            middle.1
            (omega (arith, ints, at))
            ∙ first.move.written middle.0 (omega (arith, ints, middle.1, size', next.to_right))
            (λ i from is. outside (record {
              from_left = omega (arith, ints, is, middle.1);
              to_right = omega (arith, ints, is, middle.1, size);
            })),
      )
  written_from (row ∷ rows) left right xs zs j (suc place) all is size within at place_within outside inside =
      let first = first_row kind row rows xs zs line all.0 is in
      written_from rows (left +ℤ left_growth row.op) (right +ℤ right_growth row.op) first.next zs j place all.1 first.others
      (size_next left right row xs first.next first.move size) within
      (omega (arith, ints, at)) (omega arith)
      (λ there. outside (inside_first left right row rows place there))
      (λ later after below. inside_after left right row rows later (inside (suc later) (omega arith) (omega arith)))
