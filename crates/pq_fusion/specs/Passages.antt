-- A pair that is edited below.
use Rattle.std.specs.Prelude.{◌≡◌, ℕ, Bool, true, false, ◌+◌, ◌*◌, ◌⊎◌, length, nat_lt, if◌then◌else◌}
use Rattle.pq_fusion.specs.declared.bound.Bound.{Bound}
use Rattle.pq_fusion.specs.declared.row_edit.RowEdit.{RowEdit}
use Rattle.pq_fusion.specs.declared.subtree.Pair.{Pair}
use Rattle.pq_fusion.specs.Edits.{boundary_of}
use Rattle.pq_fusion.specs.Nodes.{IsPair, pair_rows}
use Rattle.pq_fusion.specs.Pieces.{PieceParts, tolerant}
use Rattle.pq_fusion.specs.RowEdits.{PassesBy, count_after, edited, is_first, past}
use Rattle.pq_fusion.specs.Wear.{WornRows}

-- a pair of fewer rows is made a run
abbrev pub least_pair : ℕ
least_pair = 33

-- sides of so many rows are in balance, and these are those of a pair
abbrev pub make_pair : ℕ → ℕ → Bool
make_pair earlier later = if nat_lt (earlier + later) least_pair then false else (if nat_lt earlier (3 * later) then nat_lt later (3 * earlier) else false)

-- so they are after an edit
abbrev pub bears : Pair → RowEdit → Bool
bears pair edit = if is_first edit.way edit.place (length pair.earlier.rows) then make_pair (count_after edit.way (length pair.earlier.rows)) (length pair.later.rows)
    else make_pair (length pair.earlier.rows) (count_after edit.way (length pair.later.rows))

-- a pair with another side
abbrev pub with_earlier : Pair → WornRows → Pair
with_earlier pair part = record { earlier = part; later = pair.later; size = pair.size; piece = pair.piece }

abbrev pub with_later : Pair → WornRows → Pair
with_later pair part = record { earlier = pair.earlier; later = part; size = pair.size; piece = pair.piece }

-- a pair with another piece
abbrev pub with_piece : Pair → PieceParts → Pair
with_piece pair piece = record { earlier = pair.earlier; later = pair.later; size = pair.size; piece = piece }

-- the pair where the edit is made on its side
abbrev pub Edits : RowEdit → Pair → Pair → Type 0
Edits edit pair after =
    ((is_first edit.way edit.place (length pair.earlier.rows) ≡ true) × (after.earlier.rows ≡ edited edit pair.earlier.rows) × (after ≡ with_earlier pair after.earlier))
    ⊎ ((is_first edit.way edit.place (length pair.earlier.rows) ≡ false) × (after.later.rows ≡ edited (past edit (length pair.earlier.rows)) pair.later.rows)
    × (after ≡ with_later pair after.later))

-- the boundary of a pair where a row is edited at a place; behind all others one that adds an entry passes its own, whatever stands there
abbrev pub IsBoundaryFor : Bool → ℕ → Pair → Bound → Type 0
IsBoundaryFor gains place pair boundary = ((gains ≡ true) × (place ≡ length (pair_rows pair)))
    ⊎ (boundary ≡ boundary_of gains (tolerant pair.earlier.rows) (tolerant pair.later.rows))

-- a pair of the edited rows, and what passes between what they leave and what they do not
pub record IsEdited (edit : RowEdit) (pair after : Pair) (passed : Bound) : Type 0 where
  pub sound : IsPair after
  pub rows_are : pair_rows after ≡ edited edit (pair_rows pair)
  pub passes : PassesBy edit passed (pair_rows pair)
