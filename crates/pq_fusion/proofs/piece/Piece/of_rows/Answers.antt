use Rattle.std.proofs.Common.{ap, sym, ◌∙◌}
use Rattle.pq_fusion.specs.Pieces.{after_row, no_parts}
use Rattle.pq_fusion.proofs.FromRows.{no_more}
use Rattle.pq_fusion.proofs.RowByRow.{few_so_far, row_more}
use Rattle.pq_fusion.proofs.piece.Piece.of_rows.Goals as goal

pub loop-row-init : goal.loop-row-init
loop-row-init c = c.in_ok-piece.ensures ∙ sym (no_more no_parts)

pub with_row-requires-clause-few : goal.with_row-requires-clause-few
with_row-requires-clause-few c = few_so_far c.args.rows.now c.loop-row.row-index c.loop-row.piece c.loop-row.invariant c.loop-row-test.true c.requires.few

pub loop-row-preserved : goal.loop-row-preserved
loop-row-preserved c = (rw (c.row.ensures, c.row-item.is) at c.in_ok-piece-2.ensures) ∙ ap (after_row _ _) c.loop-row.invariant ∙ sym (row_more c.args.rows.now c.loop-row.row-index _ c.loop-row-test.true)
