-- What some neighbouring rows of a priority queue come to, whatever stands before them: a piece. Pieces that stand side by side are fused.
use Rattle.std.specs.Prelude.{ℕ, ◌+◌, ◌-◌, ◌≤◌, List, [], ◌∷◌, length, take, drop}
use Rattle.retro_base.specs.declared.op.Op.{Op}
use Rattle.retro_base.specs.declared.op.Op.TheVariants.{Ins, DelMin}
use Rattle.retro_base.specs.declared.row.Entry.{Entry}
use Rattle.retro_base.specs.declared.row.Row.{Row}
use Rattle.retro_base.specs.EntriesInOrder.{AreInOrder}
use Rattle.retro_base.specs.Limits.{most_rows}
use Rattle.retro_base.specs.State.{with_entry}

-- the entries that the rows leave, those that they remove again, and how many takings found nothing to take
pub record PieceParts : Type 0 where
  pub left : List Entry
  pub removed : List Entry
  pub unmet : ℕ

-- both lists of the piece rise
pub record IsRising (piece : PieceParts) : Type 0 where
  pub left : AreInOrder piece.left
  pub removed : AreInOrder piece.removed

-- how many entries and unmet takings the piece has
abbrev pub size_of : PieceParts → ℕ
size_of piece = length piece.left + length piece.removed + piece.unmet

-- a piece that rows of a timeline come to
pub record IsPiece (piece : PieceParts) : Type 0 where
  pub rising : IsRising piece
  pub few : size_of piece ≤ most_rows

-- what no rows come to
abbrev pub no_parts : PieceParts
no_parts = record { left = []; removed = []; unmet = 0 }

-- a taking removes the least entry that is left, or stays unmet
abbrev pub after_take : List Entry → List Entry → ℕ → PieceParts
after_take [] removed unmet = record { left = []; removed = removed; unmet = unmet + 1 }
after_take (least ∷ others) removed unmet = record { left = others; removed = with_entry least removed; unmet = unmet }

-- one more row
unfoldable pub after_row : Op → ℕ → PieceParts → PieceParts
after_row (Ins key) number piece = record { left = with_entry (record { key = key; number = number }) piece.left; removed = piece.removed; unmet = piece.unmet }
after_row DelMin number piece = after_take piece.left piece.removed piece.unmet
after_row op number piece = piece

-- more rows, one after another
unfoldable pub after_rows : List Row → PieceParts → PieceParts
after_rows [] piece = piece
after_rows (row ∷ rows) piece = after_rows rows (after_row row.op row.number piece)

-- what rows come to where a taking that finds nothing is let pass
abbrev pub tolerant : List Row → PieceParts
tolerant rows = after_rows rows no_parts

-- two lists of entries together, in order
unfoldable pub together : List Entry → List Entry → List Entry
together [] others = others
together (entry ∷ entries) others = with_entry entry (together entries others)

-- the n greatest entries of a rising list, and the others
abbrev pub greatest : ℕ → List Entry → List Entry
greatest n entries = drop (length entries - n) entries

abbrev pub all_but_greatest : ℕ → List Entry → List Entry
all_but_greatest n entries = take (length entries - n) entries

-- what the first piece leaves stands before what the second one removes: the second takes the least of all these, as many as it has
-- removed, and its unmet takings take the next ones
abbrev pub met : PieceParts → PieceParts → List Entry
met first second = together first.left second.removed

-- so many of them stay
abbrev pub kept : PieceParts → PieceParts → ℕ
kept first second = length first.left - second.unmet

-- two pieces, one after the other
unfoldable pub fuse : PieceParts → PieceParts → PieceParts
fuse first second = record {
  left = together second.left (greatest (kept first second) (met first second));
  removed = together first.removed (all_but_greatest (kept first second) (met first second));
  unmet = first.unmet + (second.unmet - length first.left);
}
