-- Why an item of a stack is found by its depth. The item that lies on d others came when the stack had d items, and
-- has stayed since: so it is the one of the last row before which there were no more than d.
--
--     rows     + + + - + - - +        the depths before the rows and after the last: 0 1 2 3 2 3 2 1 2
--     items    a b c   d     e        on top is e, and below it a
--     depth    0 1 2   2     1        the last place of depth at most 1 is that of e; of depth 0, that of a
use Rattle.std.proofs.Common.{◌≡◌, ℕ, zero, suc, ◌<◌, ◌≤◌, ℤ, pos, ◌+ℤ◌, ◌-ℤ◌, ◌<ℤ◌, List, [], ◌∷◌, length, Option, Some, None, refl, arith}
use Rattle.std.specs.Prelude.{MatchOption}
use Rattle.std.proofs.lemmas.Int.{ints}
use Rattle.retro_base.specs.declared.kind.Kind.TheVariants.{Stack}
use Rattle.retro_base.specs.declared.op.Op.{Op}
use Rattle.retro_base.specs.declared.op.Op.TheVariants.{Enq, Deq, Push, Pop, PushL, PushR, PopL, PopR, Put, Del, Ins, DelMin}
use Rattle.retro_base.specs.declared.row.Row.{Row}
use Rattle.retro_base.specs.Kind.{kind_of}
use Rattle.retro_base.specs.Timeline.{AreOfKind}
use Rattle.prefix_trees.specs.Growth.{left_growth, right_growth, sign_of, grown}
use Rattle.prefix_trees.specs.Prefixes.{FindsLastAtMost}
use Rattle.prefix_trees.specs.FailureLaws.{LineAt}
use Rattle.prefix_trees.specs.FoundLaws.{FindsWriter}
use Rattle.prefix_trees.specs.WriterLaws.{IsWrittenAt, written-at}

-- a row of a stack grows it or shrinks it at the left end alone
record IsAtTop (op : Op) : Type 0 where
  right : right_growth op ≡ pos 0
  left : left_growth op ≡ sign_of op

at_top : (op : Op) → kind_of op ≡ Stack → IsAtTop op
at_top (Enq v) is = absurd (cc)
at_top Deq is = absurd (cc)
at_top (Push v) is = record { right = refl; left = refl }
at_top Pop is = record { right = refl; left = refl }
at_top (PushL v) is = absurd (cc)
at_top (PushR v) is = absurd (cc)
at_top PopL is = absurd (cc)
at_top PopR is = absurd (cc)
at_top (Put k v) is = absurd (cc)
at_top (Del k) is = absurd (cc)
at_top (Ins k) is = absurd (cc)
at_top DelMin is = absurd (cc)

left_is : (rows : List Row) (place : ℕ) → AreOfKind Stack rows → grown left_growth rows place ≡ grown sign_of rows place
left_is rows zero all = refl
left_is [] (suc place) all = refl
left_is (row ∷ rows) (suc place) all = omega (arith, ints, (at_top row.op all.0).left, left_is rows place all.1)

right_is : (rows : List Row) (place : ℕ) → AreOfKind Stack rows → grown right_growth rows place ≡ pos 0
right_is rows zero all = refl
right_is [] (suc place) all = refl
right_is (row ∷ rows) (suc place) all = omega (arith, ints, (at_top row.op all.0).right, right_is rows place all.1)

module _ (rows : List Row) (place index : ℕ) (items : List ℤ) (all : AreOfKind Stack rows) (within : place ≤ length rows)
    (at : LineAt Stack rows place items) (there : index < length items) (depth : ℤ) (depth_is : depth ≡ (grown left_growth rows place -ℤ pos 1) -ℤ pos index) where
  found : (answer : Option ℕ) → FindsLastAtMost left_growth rows place depth answer → MatchOption answer ⊥ (IsWrittenAt rows items index)
  found None none = absurd (omega (arith, ints, none 0 (omega arith) (omega arith), depth_is, left_is rows place all, at.size, there))
  found (Some written) last =
      written-at Stack tt rows place index items all within at there written last.within
      (λ inside. omega (arith, ints, inside.from_left, last.reached, depth_is))
      (λ later after below. record {
        from_left = omega (arith, ints, last.not_after later after below, depth_is);
        to_right = omega (arith, ints, right_is rows later all, left_is rows place all, at.size, there);
      })

-- the item at an index was put on by the last row from which on the stack grew by that item and those that lie on it
pub found-by_depth : (rows : List Row) (place index : ℕ) (count : ℤ) (answer : Option ℕ) → AreOfKind Stack rows → place ≤ length rows → pos index <ℤ grown sign_of rows place
    → count ≡ pos index +ℤ pos 1 → FindsLastAtMost left_growth rows place (grown left_growth rows place -ℤ count) answer → FindsWriter Stack rows place index answer
found-by_depth rows place index count answer all within there count_is last items at =
    found rows place index items all within at (omega (arith, ints, at.size, there)) (grown left_growth rows place -ℤ count) (omega (arith, ints, count_is)) answer last
