-- Why the items of a queue are found by counting. Rows take items in the order in which rows put them in: so with
-- d rows that take before a place, the first d items are gone, and the front is the one that was put in next.
--
--     rows     + + - + + - +        three of the items a b c d e are left: d = 2
--     items    a b   c d   e
--     taken        a     b
--     left                 c d e    the item at index i is that of the row that puts in number d + i, from 0
--
-- As many items were put in from that row on as lie from the item at index i to the back.
use Rattle.std.proofs.Common.{◌≡◌, ℕ, zero, suc, ◌<◌, ◌≤◌, ℤ, pos, ◌-ℤ◌, ◌≤ℤ◌, ◌<ℤ◌, List, [], ◌∷◌, length, Option, Some, None, arith}
use Rattle.std.specs.Prelude.{MatchOption}
use Rattle.std.proofs.lemmas.Int.{ints}
use Rattle.retro_base.specs.declared.kind.Kind.TheVariants.{Queue}
use Rattle.retro_base.specs.declared.op.Op.{Op}
use Rattle.retro_base.specs.declared.op.Op.TheVariants.{Enq, Deq, Push, Pop, PushL, PushR, PopL, PopR, Put, Del, Ins, DelMin}
use Rattle.retro_base.specs.declared.row.Row.{Row}
use Rattle.retro_base.specs.Kind.{kind_of}
use Rattle.retro_base.specs.Timeline.{AreOfKind}
use Rattle.prefix_trees.specs.Growth.{left_growth, right_growth, sign_of, grown}
use Rattle.prefix_trees.specs.Prefixes.{FindsLastAtMost}
use Rattle.prefix_trees.specs.FailureLaws.{LineAt}
use Rattle.prefix_trees.specs.SizeLaws.{both-ends}
use Rattle.prefix_trees.specs.FoundLaws.{FindsWriter}
use Rattle.prefix_trees.specs.WriterLaws.{IsWrittenAt, written-at}

-- no row of a queue lets it grow at the left end
taken : (op : Op) → kind_of op ≡ Queue → left_growth op ≤ℤ pos 0
taken (Enq v) is = omega (arith, ints)
taken Deq is = omega (arith, ints)
taken (Push v) is = absurd (cc)
taken Pop is = absurd (cc)
taken (PushL v) is = absurd (cc)
taken (PushR v) is = absurd (cc)
taken PopL is = absurd (cc)
taken PopR is = absurd (cc)
taken (Put k v) is = absurd (cc)
taken (Del k) is = absurd (cc)
taken (Ins k) is = absurd (cc)
taken DelMin is = absurd (cc)

-- what was taken stays taken
left_falls : (rows : List Row) (place later : ℕ) → AreOfKind Queue rows → place ≤ later → grown left_growth rows later ≤ℤ grown left_growth rows place
left_falls rows zero zero all order = omega (arith, ints)
left_falls [] zero (suc later) all order = omega (arith, ints)
left_falls (row ∷ rows) zero (suc later) all order = omega (arith, ints, taken row.op all.0, left_falls rows zero later all.1 (omega arith))
left_falls rows (suc place) zero all order = absurd (omega arith)
left_falls [] (suc place) (suc later) all order = omega (arith, ints)
left_falls (row ∷ rows) (suc place) (suc later) all order = omega (arith, ints, left_falls rows place later all.1 (omega arith))

module _ (rows : List Row) (place index : ℕ) (items : List ℤ) (all : AreOfKind Queue rows) (within : place ≤ length rows)
    (at : LineAt Queue rows place items) (there : index < length items) (number : ℤ) (number_is : number ≡ pos index -ℤ grown left_growth rows place) where
  found : (answer : Option ℕ) → FindsLastAtMost right_growth rows place number answer → MatchOption answer ⊥ (IsWrittenAt rows items index)
  found None none = absurd (omega (arith, ints, none 0 (omega arith) (omega arith), left_falls rows 0 place all (omega arith), number_is))
  found (Some written) last =
      written-at Queue tt rows place index items all within at there written last.within
      (λ inside. omega (arith, ints, inside.to_right, last.reached, number_is))
      (λ later after below. record {
        from_left = omega (arith, ints, left_falls rows later place all below, number_is);
        to_right = omega (arith, ints, last.not_after later after below, number_is);
      })

-- the item at an index was put in by the last row from which on so many were put in as lie from that item on
pub found-by_counts : (rows : List Row) (place index : ℕ) (count : ℤ) (answer : Option ℕ) → AreOfKind Queue rows → place ≤ length rows → pos index <ℤ grown sign_of rows place
    → count ≡ grown sign_of rows place -ℤ pos index → FindsLastAtMost right_growth rows place (grown right_growth rows place -ℤ count) answer → FindsWriter Queue rows place index answer
found-by_counts rows place index count answer all within there count_is last items at =
    found rows place index items all within at (omega (arith, ints, at.size, there)) (grown right_growth rows place -ℤ count) (omega (arith, ints, count_is, both-ends rows place)) answer last
