use Rattle.std.proofs.Common.{◌∙◌, ◌∷◌, [], length, ap, arith, length-append, subst, sym}
use Rattle.pq_fusion.specs.Nodes.{IsRun}
use Rattle.pq_fusion.specs.Pieces.{after_row, size_of, tolerant}
use Rattle.pq_fusion.proofs.RowByRow.{behind_all, last_more}
use Rattle.pq_fusion.proofs.Sizes.{rows_size}
use Rattle.pq_fusion.proofs.subtree.Subtree.with_last.Goals as goal

pub with_row-requires-clause-few : goal.with_row-requires-clause-few
with_row-requires-clause-few g c =
    let rows_are = c.requires.rows ∙ behind_all c.args.self.now.rows c.args.row in
    omega (
      arith,
      ap size_of c.in_ok-whole.ensures,
      rows_size c.args.self.now.rows,
      c.requires.few,
      ap length rows_are,
      length-append c.args.self.now.rows (c.args.row ∷ []),
    )

pub of_run-subtree-requires : goal.of_run-subtree-requires
of_run-subtree-requires g c =
    let rows_are = c.requires.rows ∙ behind_all c.args.self.now.rows c.args.row in
    subst IsRun (sym c.in_ok-new.ensures.ok) (record {
      some = omega (arith, ap length rows_are, length-append c.args.self.now.rows (c.args.row ∷ []));
      few = c.requires.few;
      piece_is = c.in_ok-of_piece.ensures ∙ c.in_ok-piece.ensures ∙ c.in_ok-with_row.ensures ∙ ap (after_row c.args.row.op c.args.row.number) c.in_ok-whole.ensures
          ∙ sym (last_more c.args.self.now.rows c.args.row) ∙ ap tolerant (sym rows_are);
      of_kind = c.requires.of_kind;
    })
