-- What is known of the root of a tree of rows.
use Rattle.std.proofs.Common.{◌≡◌, ◌+◌, ◌≤◌, List, [], ◌∷◌, ◌++◌, length, sym, ◌∙◌, arith, length-append}
use Rattle.std.specs.List.{AllByRecursion}
use Rattle.retro_base.specs.declared.kind.Kind.TheVariants.{Pq}
use Rattle.retro_base.specs.declared.row.Row.{Row}
use Rattle.retro_base.specs.Kind.{kind_of}
use Rattle.retro_base.specs.Limits.{most_rows}
use Rattle.retro_base.specs.Timeline.{AreOfKind}
use Rattle.pq_fusion.specs.declared.subtree.Link.{Link}
use Rattle.pq_fusion.specs.declared.subtree.Link.TheVariants.{Empty, Leaf, Fork}
use Rattle.pq_fusion.specs.declared.subtree.Pair.{Pair}
use Rattle.pq_fusion.specs.Nodes.{IsBalanced, part_of, IsPair, IsSound}
use Rattle.pq_fusion.specs.Pieces.{tolerant, fuse}
use Rattle.pq_fusion.proofs.FromRows.{rows_fuse}

pub all_both : (P : Row → Type 0) (xs ys : List Row) → AllByRecursion P xs → AllByRecursion P ys → AllByRecursion P (xs ++ ys)
all_both P [] ys first second = second
all_both P (x ∷ xs) ys first second = (first.0, all_both P xs ys first.1 second)

all_first : (P : Row → Type 0) (xs ys : List Row) → AllByRecursion P (xs ++ ys) → AllByRecursion P xs
all_first P [] ys all = tt
all_first P (x ∷ xs) ys all = (all.0, all_first P xs ys all.1)

all_second : (P : Row → Type 0) (xs ys : List Row) → AllByRecursion P (xs ++ ys) → AllByRecursion P ys
all_second P [] ys all = all
all_second P (x ∷ xs) ys all = all_second P xs ys all.1

-- the rows of a link are of the kind, and few
pub kind_of_rows : (link : Link) → IsSound link → AreOfKind Pq (part_of link).rows
kind_of_rows Empty sound = tt
kind_of_rows (Leaf run) sound = sound.of_kind
kind_of_rows (Fork pair) sound = sound.of_kind

pub few_rows : (link : Link) → IsSound link → length (part_of link).rows ≤ most_rows
few_rows Empty sound = omega arith
few_rows (Leaf run) sound = omega (arith, sound.few)
few_rows (Fork pair) sound = sound.few

-- a pair that is made of two sides
pub made_pair : (pair : Pair) → pair.size ≡ length pair.earlier.rows + length pair.later.rows → pair.piece ≡ fuse (tolerant pair.earlier.rows) (tolerant pair.later.rows)
    → IsBalanced (length pair.earlier.rows) (length pair.later.rows) → length pair.earlier.rows + length pair.later.rows ≤ most_rows
    → AreOfKind Pq pair.earlier.rows → AreOfKind Pq pair.later.rows → IsPair pair
made_pair pair size piece balanced few earlier later =
    let whole = length-append pair.earlier.rows pair.later.rows in
    record {
      size_is = omega (arith, whole, size);
      piece_is = piece ∙ sym (rows_fuse pair.earlier.rows pair.later.rows);
      balanced = balanced;
      of_kind = all_both (λ row. kind_of row.op ≡ Pq) pair.earlier.rows pair.later.rows earlier later;
      few = omega (arith, whole, few);
    }
