-- How many entries the pieces of a tree have: all that its rows add in the root's, and on each level no more than there are rows.
use Rattle.std.proofs.Common.{◌≡◌, ℕ, zero, suc, ◌+◌, ◌*◌, ◌^◌, ◌<◌, ◌≤◌, List, [], ◌∷◌, ◌++◌, length, refl, ap, ◌∙◌, arith, subst, Option, Some, None}
use Rattle.std.proofs.Math.Nat.{mul-le-mul_right}
use Rattle.std.proofs.lemmas.Nat.{pow-add}
use Rattle.retro_base.specs.declared.row.Row.{Row}
use Rattle.retro_base.specs.BridgeTable.{added}
use Rattle.costs.specs.Digits.{digits}
use Rattle.costs.specs.VisitsLaws.{below-digits}
use Rattle.std.specs.Option.{option_to_list}
use Rattle.std.specs.List.{cons_option}
use Rattle.retro_base.specs.declared.op.Op.{Op}
use Rattle.retro_base.specs.declared.op.Op.TheVariants.{Enq, Deq, Push, Pop, PushL, PushR, PopL, PopR, Put, Del, Ins, DelMin}
use Rattle.retro_base.specs.declared.row.Entry.{Entry}
use Rattle.retro_base.specs.Weights.{added_as, added_by}
use Rattle.retro_base.specs.lemmas.CountedEntries.{with_length}
use Rattle.pq_fusion.specs.declared.subtree.Pair.{Pair}
use Rattle.pq_fusion.specs.Nodes.{IsPairOf, IsWithinLevels}
use Rattle.pq_fusion.specs.Pieces.{PieceParts, no_parts, after_take, after_row, after_rows, tolerant}

-- how many entries a piece has
abbrev pub count_of : PieceParts → ℕ
count_of piece = length piece.left + length piece.removed

triple : ℕ → ℕ
triple zero = zero
triple (suc n) = suc (suc (suc (triple n)))

triple-is : (n : ℕ) → triple n ≡ 3 * n
unfolding triple
triple-is zero = omega arith
triple-is (suc n) = omega (arith, triple-is n)

three_levels : (digits whole : ℕ) → whole < 2 ^ digits → IsWithinLevels whole (triple digits)
unfolding triple
three_levels zero whole below = omega arith
three_levels (suc digits) whole below = λ first a second b third c. three_levels digits third (omega (arith, pow-add 2 digits 1))

-- the levels of a tree of this weight
pub levels-of_digits : (whole : ℕ) → IsWithinLevels whole (3 * digits whole)
levels-of_digits whole = subst (IsWithinLevels whole) (triple-is (digits whole)) (three_levels (digits whole) whole (below-digits whole))

-- a pair's piece and those of its sides, on one level more than the sides have
pub one_level_more : (whole earlier later all first second more_earlier more_later : ℕ) → whole ≡ earlier + later → all ≡ first + second
    → earlier < 3 * later → later < 3 * earlier
    → ((levels : ℕ) → IsWithinLevels (earlier + 1) levels → more_earlier ≤ first * levels) → ((levels : ℕ) → IsWithinLevels (later + 1) levels → more_later ≤ second * levels)
    → (levels : ℕ) → IsWithinLevels (whole + 1) levels → more_earlier + all + more_later ≤ all * levels
one_level_more whole earlier later all first second more_earlier more_later sizes counts light heavy below above zero within = absurd (omega (arith, within))
one_level_more whole earlier later all first second more_earlier more_later sizes counts light heavy below above (suc levels) within =
    level_sum all first second more_earlier more_later levels counts (below levels (within (earlier + 1) (omega arith))) (above levels (within (later + 1) (omega arith)))
  where
    level_sum : (all first second more_earlier more_later levels : ℕ) → all ≡ first + second → more_earlier ≤ first * levels → more_later ≤ second * levels
        → more_earlier + all + more_later ≤ all * suc levels
    level_sum all first second more_earlier more_later levels counts below above = rw counts (omega (arith, below, above))

-- the piece of a run, on as many levels
pub one_level : (all rows levels : ℕ) → 0 < rows → IsWithinLevels (rows + 1) levels → all ≤ all * levels
one_level all rows zero some within = absurd (omega (arith, within))
one_level all rows (suc levels) some within = omega arith

-- and on so many levels at least as many as there are more than 16 for each node of the last
below_power : (n : ℕ) → n + 1 ≤ 2 ^ n
below_power zero = omega arith
below_power (suc n) = omega (arith, below_power n, pow-add 2 n 1)

run_times : (all n : ℕ) → all ≤ 64 → all * (n + 1) ≤ 64 * 2 ^ n
run_times all n few = omega (arith, mul-le-mul_right (n + 1) few, below_power n)

pub run_least : (all levels : ℕ) → all ≤ 64 → levels * all ≤ all + 16 * 2 ^ levels
run_least all zero few = omega arith
run_least all (suc zero) few = omega arith
run_least all (suc (suc n)) few = omega (arith, run_times all n few, pow-add 2 n 2)

pub one_level_least : (all first second more_earlier more_later : ℕ) → all ≡ first + second
    → ((levels : ℕ) → levels * first ≤ more_earlier + 16 * 2 ^ levels) → ((levels : ℕ) → levels * second ≤ more_later + 16 * 2 ^ levels)
    → (levels : ℕ) → levels * all ≤ more_earlier + all + more_later + 16 * 2 ^ levels
one_level_least all first second more_earlier more_later counts below above zero = omega arith
one_level_least all first second more_earlier more_later counts below above (suc levels) =
    level_least all first second more_earlier more_later levels counts (below levels) (above levels)
  where
    level_least : (all first second more_earlier more_later levels : ℕ) → all ≡ first + second
        → levels * first ≤ more_earlier + 16 * 2 ^ levels → levels * second ≤ more_later + 16 * 2 ^ levels
        → suc levels * all ≤ more_earlier + all + more_later + 16 * 2 ^ suc levels
    level_least all first second more_earlier more_later levels counts below above = rw counts (omega (arith, below, above, pow-add 2 levels 1))

pub squares : (whole earlier later own more_earlier more_later : ℕ) → whole ≡ earlier + later → 0 < earlier → 0 < later → own ≤ whole
    → more_earlier ≤ earlier * earlier → more_later ≤ later * later → more_earlier + own + more_later ≤ whole * whole
squares whole zero later own more_earlier more_later sizes some others few first second = absurd (omega arith)
squares whole (suc earlier) zero own more_earlier more_later sizes some others few first second = absurd (omega arith)
squares whole (suc earlier) (suc later) own more_earlier more_later sizes some others few first second = rw sizes (omega (arith, few, sizes, first, second))

pub one_square : (own whole : ℕ) → own ≤ whole → own ≤ whole * whole
one_square own zero few = few
one_square own (suc whole) few = omega (arith, few)

-- what rows leave and remove is all that they add
take_count : (left removed : List Entry) (unmet : ℕ) → count_of (after_take left removed unmet) ≡ length left + length removed
take_count [] removed unmet = refl
take_count (x ∷ xs) removed unmet = omega (arith, with_length x removed)

added_more : (o : Option Entry) (rows : List Row) → length (cons_option o (added rows)) ≡ length (option_to_list o) + length (added rows)
added_more None rows = omega arith
added_more (Some e) rows = omega arith

row_count : (op : Op) (number : ℕ) (a : PieceParts) → count_of (after_row op number a) ≡ count_of a + length (option_to_list (added_as op number))
unfolding after_row
row_count (Enq v) number a = omega arith
row_count Deq number a = omega arith
row_count (Push v) number a = omega arith
row_count Pop number a = omega arith
row_count (PushL v) number a = omega arith
row_count (PushR v) number a = omega arith
row_count PopL number a = omega arith
row_count PopR number a = omega arith
row_count (Put k v) number a = omega arith
row_count (Del k) number a = omega arith
row_count (Ins k) number a = omega (arith, with_length (record { key = k; number = number }) a.left)
row_count DelMin number a = omega (arith, take_count a.left a.removed a.unmet)

count_from : (rows : List Row) (a : PieceParts) → count_of (after_rows rows a) ≡ count_of a + length (added rows)
unfolding after_rows
count_from [] a = omega arith
count_from (row ∷ rows) a =
    omega (arith, row_count row.op row.number a, count_from rows (after_row row.op row.number a), added_more (added_by row) rows)

pub rows_count : (rows : List Row) → count_of (tolerant rows) ≡ length (added rows)
rows_count rows = omega (arith, count_from rows no_parts)

pub added-append : (xs ys : List Row) → length (added (xs ++ ys)) ≡ length (added xs) + length (added ys)
added-append [] ys = omega arith
added-append (x ∷ xs) ys = omega (arith, added_more (added_by x) (xs ++ ys), added_more (added_by x) xs, added-append xs ys)

option_few : (o : Option Entry) → length (option_to_list o) ≤ 1
option_few None = omega arith
option_few (Some e) = omega arith

-- no more than there are rows
pub added_few : (rows : List Row) → length (added rows) ≤ length rows
added_few [] = omega arith
added_few (x ∷ xs) = omega (arith, added_more (added_by x) xs, option_few (added_by x), added_few xs)

pub more_rows : (stored few rows digits : ℕ) → few ≤ rows → stored ≤ few * (3 * digits) → stored ≤ 3 * rows * digits
more_rows stored few rows digits less most = omega (arith, most, mul-le-mul_right digits less)

-- a piece of rows has what they add
pub piece_count : (rows : List Row) (piece : PieceParts) → piece ≡ tolerant rows → count_of piece ≡ length (added rows)
piece_count rows piece is = ap count_of is ∙ rows_count rows

pub piece_less : (rows : List Row) (piece : PieceParts) → piece ≡ tolerant rows → count_of piece ≤ length rows
piece_less rows piece is = omega (arith, piece_count rows piece is, added_few rows)

-- what the rows of a pair add
pub added_parts : (rows : List Row) (pair : Pair) → IsPairOf rows pair → length (added rows) ≡ length (added pair.earlier.rows) + length (added pair.later.rows)
added_parts rows pair root = ap (λ l. length (added l)) root.rows_are ∙ added-append pair.earlier.rows pair.later.rows
