-- What one row more does to a piece.
use Rattle.std.proofs.Common.{◌≡◌, ℕ, zero, suc, ◌+◌, ◌<◌, ◌≤◌, List, [], ◌∷◌, ◌++◌, length, take, drop, get_or, refl, ap, sym, ◌∙◌, subst, arith, add-one, Some, None, inl, inr}
use Rattle.std.specs.List.{insert}
use Rattle.std.proofs.Math.Seq.{take-suc}
use Rattle.std.proofs.lemmas.List.{length-take}
use Rattle.retro_base.specs.declared.kind.Kind.TheVariants.{Pq}
use Rattle.retro_base.specs.declared.op.Op.{Op}
use Rattle.retro_base.specs.declared.op.Op.TheVariants.{Ins, DelMin}
use Rattle.retro_base.specs.declared.row.Entry.{Entry}
use Rattle.retro_base.specs.declared.row.Row.{Row}
use Rattle.retro_base.specs.EntriesInOrder.{AreInOrder}
use Rattle.retro_base.specs.Kind.{kind_of}
use Rattle.retro_base.specs.Limits.{most_rows}
use Rattle.retro_base.specs.State.{with_entry}
use Rattle.retro_base.specs.Timeline.{AreOfKind}
use Rattle.retro_base.specs.Weights.{added_as, added_by}
use Rattle.retro_base.specs.lemmas.CountedEntries.{with_length}
use Rattle.pq_fusion.specs.Pieces.{PieceParts, IsPiece, size_of, after_take, after_row, tolerant, no_parts}
use Rattle.pq_fusion.proofs.Order.{order_with}
use Rattle.pq_fusion.proofs.Fused.{parts, same_parts, rising_row}
use Rattle.pq_fusion.proofs.FromRows.{in_parts, one_more, no_more}
use Rattle.retro_base.specs.lemmas.bridges.StatedBridges.{adds_or_takes}
use Rattle.pq_fusion.proofs.Sizes.{row_size, rows_size}

-- a row that adds an entry, and a taking
row_adding : (op : Op) (number : ℕ) (entry : Entry) (piece : PieceParts) → kind_of op ≡ Pq → added_as op number ≡ Some entry
    → after_row op number piece ≡ parts (with_entry entry piece.left) piece.removed piece.unmet
unfolding after_row
row_adding op number entry piece kind adds = elim (adds_or_takes op kind) [
  | inl added ↦
      let one : added_as (Ins added.0) number ≡ Some entry = ap (λ o. added_as o number) (sym added.1) ∙ adds in
      let same : (record { key = added.0; number = number }) ≡ entry = cc in
      ap (λ o. after_row o number piece) added.1 ∙ ap (λ e. parts (with_entry e piece.left) piece.removed piece.unmet) same
  | inr taking ↦ let one : added_as DelMin number ≡ Some entry = ap (λ o. added_as o number) (sym taking) ∙ adds in absurd (cc)
]

row_taking : (op : Op) (number : ℕ) (piece : PieceParts) → kind_of op ≡ Pq → added_as op number ≡ None
    → after_row op number piece ≡ after_take piece.left piece.removed piece.unmet
unfolding after_row
row_taking op number piece kind takes = elim (adds_or_takes op kind) [
  | inl added ↦ let one : added_as (Ins added.0) number ≡ None = ap (λ o. added_as o number) (sym added.1) ∙ takes in absurd (cc)
  | inr taking ↦ ap (λ o. after_row o number piece) taking
]

pub with_adding : (row : Row) (entry : Entry) (piece : PieceParts) → kind_of row.op ≡ Pq → added_by row ≡ Some entry
    → parts (with_entry entry piece.left) piece.removed piece.unmet ≡ after_row row.op row.number piece
with_adding row entry piece kind adds = sym (row_adding row.op row.number entry piece kind adds)

pub with_taking : (row : Row) (piece : PieceParts) → kind_of row.op ≡ Pq → added_by row ≡ None
    → after_take piece.left piece.removed piece.unmet ≡ after_row row.op row.number piece
with_taking row piece kind takes = sym (row_taking row.op row.number piece kind takes)

-- both are pieces where there is room
module _ (p seen : PieceParts) (is : p ≡ seen) (piece : IsPiece p) (few : size_of seen + 1 ≤ most_rows) where
  room : size_of p + 1 ≤ most_rows
  room = subst (λ q. size_of q + 1 ≤ most_rows) (sym is) few

  pub piece_adding : (entry : Entry) (left : List Entry) → left ≡ with_entry entry p.left → IsPiece (parts left p.removed p.unmet)
  piece_adding entry left left_is = record {
    rising = record { left = subst AreInOrder (sym left_is) (order_with entry p.left piece.rising.left); removed = piece.rising.removed };
    few = omega (arith, ap length left_is, with_length entry p.left, room);
  }

  pub piece_taking : IsPiece (after_take p.left p.removed p.unmet)
  unfolding after_row
  piece_taking = record { rising = rising_row DelMin 0 p piece.rising; few = omega (arith, row_size DelMin 0 p, room) }

  pub piece_found : (least : Entry) (left removed : List Entry) → 0 < length p.left → least ≡ get_or p.left 0 least → left ≡ drop 1 p.left → removed ≡ with_entry least p.removed
      → IsPiece (parts left removed p.unmet)
  piece_found least left removed some least_is left_is removed_is =
      subst IsPiece (found p.left p.removed p.unmet least left removed some least_is left_is removed_is) piece_taking
    where
      found : (xs ys : List Entry) (unmet : ℕ) (least : Entry) (left removed : List Entry) → 0 < length xs → least ≡ get_or xs 0 least → left ≡ drop 1 xs → removed ≡ with_entry least ys
          → after_take xs ys unmet ≡ parts left removed unmet
      found [] ys unmet least left removed some least_is left_is removed_is = absurd (omega (arith, some))
      found (x ∷ xs) ys unmet least left removed some least_is left_is removed_is =
          let same : least ≡ x = least_is in
          same_parts xs left (with_entry x ys) removed unmet unmet (sym left_is) (ap (λ e. with_entry e ys) (sym same) ∙ sym removed_is) refl

-- one row more behind all
pub behind_all : (rows : List Row) (row : Row) → insert rows (length rows) row ≡ rows ++ row ∷ []
behind_all [] row = refl
behind_all (x ∷ rows) row = ap (λ l. x ∷ l) (behind_all rows row)

pub last_more : (rows : List Row) (row : Row) → tolerant (rows ++ row ∷ []) ≡ after_row row.op row.number (tolerant rows)
last_more rows row = in_parts rows (row ∷ []) no_parts ∙ one_more row [] (tolerant rows) ∙ no_more (after_row row.op row.number (tolerant rows))

pub adding_last : (rows : List Row) (n : ℕ) (row : Row) (entry : Entry) → n ≡ length rows → kind_of row.op ≡ Pq → added_by row ≡ Some entry
    → tolerant (insert rows n row) ≡ parts (with_entry entry (tolerant rows).left) (tolerant rows).removed (tolerant rows).unmet
adding_last rows n row entry n_is kind adds =
    ap (λ k. tolerant (insert rows k row)) n_is ∙ ap tolerant (behind_all rows row) ∙ last_more rows row ∙ sym (with_adding row entry (tolerant rows) kind adds)

-- row by row
pub row_more : (rows : List Row) (n : ℕ) (d : Row) → n < length rows
    → tolerant (take (n + 1) rows) ≡ after_row (get_or rows n d).op (get_or rows n d).number (tolerant (take n rows))
row_more rows n d within =
    ap (λ k. tolerant (take k rows)) (add-one n) ∙ ap tolerant (take-suc rows n d within) ∙ last_more (take n rows) (get_or rows n d)

pub few_so_far : (rows : List Row) (n : ℕ) (piece : PieceParts) → piece ≡ tolerant (take n rows) → n < length rows → length rows ≤ most_rows → size_of piece + 1 ≤ most_rows
few_so_far rows n piece is within few = omega (arith, ap size_of is, rows_size (take n rows), length-take n rows)

pub kind_of_one : (rows : List Row) (n : ℕ) (d : Row) → n < length rows → AreOfKind Pq rows → kind_of (get_or rows n d).op ≡ Pq
kind_of_one [] n d within all = absurd (omega (arith, within))
kind_of_one (x ∷ rows) zero d within all = all.0
kind_of_one (x ∷ rows) (suc n) d within all = kind_of_one rows n d (omega (arith, within)) all.1
