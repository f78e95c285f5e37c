-- How many items a line has is a number, and no greater than the number of rows before the place.
use Rattle.std.proofs.Common.{◌≡◌, ℕ, zero, suc, ◌≤◌, ℤ, pos, negsuc, ◌+ℤ◌, ◌≤ℤ◌, List, [], ◌∷◌, length, refl, arith}
use Rattle.std.proofs.lemmas.Int.{ints}
use Rattle.retro_base.specs.Limits.{most_rows}
use Rattle.retro_base.specs.declared.kind.Kind.{Kind}
use Rattle.retro_base.specs.declared.op.Op.{Op}
use Rattle.retro_base.specs.declared.op.Op.TheVariants.{Enq}
use Rattle.retro_base.specs.declared.row.Row.{Row}
use Rattle.retro_base.specs.Timeline.{IsReplayable}
use Rattle.retro_base.specs.lemmas.Replayable.{empty_replayable}
use Rattle.prefix_trees.specs.Growth.{IsLine, sign_of, left_growth, right_growth, grown}
use Rattle.prefix_trees.specs.LineLaws.{growth_is}
use Rattle.prefix_trees.specs.FailureLaws.{never-falls}

sign-le : (op : Op) → sign_of op ≤ℤ pos 1
sign-le (Enq v) = omega (arith, ints)
sign-le op = omega (arith, ints)

-- so many rows add at most so many items
pub grown-le : (rows : List Row) (place : ℕ) → grown sign_of rows place ≤ℤ pos place
grown-le rows zero = omega (arith, ints)
grown-le [] (suc place) = omega (arith, ints)
grown-le (row ∷ rows) (suc place) = omega (arith, ints, sign-le row.op, grown-le rows place)

-- both ends together grow as the whole line does
pub both-ends : (rows : List Row) (place : ℕ) → (grown left_growth rows place +ℤ grown right_growth rows place) ≡ grown sign_of rows place
both-ends rows zero = refl
both-ends [] (suc place) = refl
both-ends (row ∷ rows) (suc place) = omega (arith, ints, growth_is row.op, both-ends rows place)

pub natural : (z : ℤ) → pos 0 ≤ℤ z → (n : ℕ) × (z ≡ pos n)
natural (pos n) h = (n, refl)
natural (negsuc n) h = absurd (omega (arith, ints))

pub natural-size : (kind : Kind) (rows : List Row) → IsLine kind → IsReplayable kind rows → (place : ℕ) (size : ℤ) → place ≤ length rows → size ≡ grown sign_of rows place
    → (n : ℕ) × (size ≡ pos n) × (n ≤ place) × (place ≤ most_rows)
natural-size kind rows line replayable place size within is =
    let found = natural size (omega (arith, ints, never-falls kind rows line replayable.of_kind replayable.valid place within, is)) in
    (found.0, found.1, omega (arith, ints, found.1, is, grown-le rows place), omega (arith, within, replayable.few))

-- no rows replay
pub replayable-none : (kind : Kind) → IsReplayable kind []
replayable-none kind = empty_replayable kind
