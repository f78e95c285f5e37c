-- How many entries and unmet takings pieces have.
use Rattle.std.proofs.Common.{◌≡◌, ℕ, suc, ◌+◌, ◌-◌, ◌≤◌, List, [], ◌∷◌, length, take, drop, refl, ap, sym, ◌∙◌, arith, length-append}
use Rattle.std.proofs.lemmas.List.{take-append-drop, length-drop}
use Rattle.retro_base.specs.declared.op.Op.{Op}
use Rattle.retro_base.specs.declared.op.Op.TheVariants.{Enq, Deq, Push, Pop, PushL, PushR, PopL, PopR, Put, Del, Ins, DelMin}
use Rattle.retro_base.specs.declared.row.Entry.{Entry}
use Rattle.retro_base.specs.declared.row.Row.{Row}
use Rattle.retro_base.specs.EntriesInOrder.{AreInOrder}
use Rattle.retro_base.specs.Limits.{most_rows}
use Rattle.retro_base.specs.lemmas.CountedEntries.{with_length}
use Rattle.pq_fusion.specs.Pieces.{PieceParts, IsPiece, size_of, no_parts, after_take, after_row, after_rows, tolerant, together, fuse}
use Rattle.pq_fusion.proofs.Order.{length_together, order_together}
use Rattle.pq_fusion.proofs.Split.{order_front, order_back}
use Rattle.pq_fusion.proofs.Fused.{parts, fused_rise}

-- two pieces fused have no more than both
size_by : (la ra ua lb rb ub n l m k j : ℕ) → m ≡ la + rb → n ≡ la - ub → k + j ≡ m → j ≡ n → l ≡ lb + j
    → l + (ra + k) + (ua + (ub - la)) ≤ (la + ra + ua) + (lb + rb + ub)
size_by la ra ua lb rb ub n l m k j e f g h i = omega arith

pub fused_size : (a b : PieceParts) → size_of (fuse a b) ≤ size_of a + size_of b
unfolding fuse
fused_size a b =
    let n = length a.left - b.unmet in
    let met = together a.left b.removed in
    let place = length met - n in
    let whole : length met ≡ length a.left + length b.removed = length_together a.left b.removed in
    let split : length (take place met) + length (drop place met) ≡ length met = sym (length-append (take place met) (drop place met)) ∙ ap length (take-append-drop place met) in
    let back : length (drop place met) ≡ n = omega (arith, length-drop place met) in
    omega (arith, length_together b.left (drop place met), length_together a.removed (take place met))

pub fused_piece : (a b : PieceParts) → IsPiece a → IsPiece b → size_of a + size_of b ≤ most_rows → IsPiece (fuse a b)
fused_piece a b first second few = record { rising = fused_rise a b first.rising second.rising; few = omega (arith, fused_size a b) }

-- the fused piece, by what was merged
pub made_is : (a b : PieceParts) (met taken staying left removed : List Entry) (place unmet : ℕ) → met ≡ together a.left b.removed
    → place ≡ length met - (length a.left - b.unmet) → staying ≡ drop place met → taken ≡ take place met
    → left ≡ together b.left staying → removed ≡ together a.removed taken → unmet ≡ a.unmet + (b.unmet - length a.left)
    → parts left removed unmet ≡ fuse a b
unfolding fuse
made_is a b met taken staying left removed place unmet m p s t l r u = rw (l, r, u, s, t, p, m) refl

-- a part of what was merged is in order
pub front_order : (xs ys front : List Entry) (place : ℕ) (met : List Entry) → AreInOrder ys → met ≡ together xs ys → front ≡ take place met → AreInOrder front
front_order xs ys front place met order m f =
    rw f (order_front (take place met) (drop place met) (rw (take-append-drop place met, m) (order_together xs ys order)))

pub back_order : (xs ys back : List Entry) (place : ℕ) (met : List Entry) → AreInOrder ys → met ≡ together xs ys → back ≡ drop place met → AreInOrder back
back_order xs ys back place met order m f =
    rw f (order_back (take place met) (drop place met) (rw (take-append-drop place met, m) (order_together xs ys order)))

-- rows come to no more entries and unmet takings than they are
take_size : (left removed : List Entry) (unmet : ℕ) → size_of (after_take left removed unmet) ≤ suc (length left + length removed + unmet)
take_size [] removed unmet = omega arith
take_size (x ∷ xs) removed unmet = omega (arith, with_length x removed)

pub row_size : (op : Op) (number : ℕ) (a : PieceParts) → size_of (after_row op number a) ≤ suc (size_of a)
unfolding after_row
row_size (Enq v) number a = omega arith
row_size Deq number a = omega arith
row_size (Push v) number a = omega arith
row_size Pop number a = omega arith
row_size (PushL v) number a = omega arith
row_size (PushR v) number a = omega arith
row_size PopL number a = omega arith
row_size PopR number a = omega arith
row_size (Put k v) number a = omega arith
row_size (Del k) number a = omega arith
row_size (Ins k) number a = omega (arith, with_length (record { key = k; number = number }) a.left)
row_size DelMin number a = take_size a.left a.removed a.unmet

rows_size_from : (rows : List Row) (a : PieceParts) → size_of (after_rows rows a) ≤ size_of a + length rows
unfolding after_rows
rows_size_from [] a = omega arith
rows_size_from (row ∷ rows) a = omega (arith, row_size row.op row.number a, rows_size_from rows (after_row row.op row.number a))

pub rows_size : (rows : List Row) → size_of (tolerant rows) ≤ length rows
rows_size rows = omega (arith, rows_size_from rows no_parts)

-- and leave no more
pub left_size : (rows : List Row) (piece : PieceParts) → piece ≡ tolerant rows → length piece.left ≤ length rows
left_size rows piece is = omega (arith, ap size_of is, rows_size rows)
