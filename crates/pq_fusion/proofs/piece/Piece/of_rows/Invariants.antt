use Rattle.std.proofs.Common.{◌≡◌, take}
use Rattle.pq_fusion.specs.Pieces.{tolerant}
use Rattle.pq_fusion.proofs.piece.Piece.of_rows.Given as goal

abbrev pub invariant-loop-row : goal.invariant-loop-row
invariant-loop-row l = l.piece ≡ tolerant (take l.row-index l.rows)
