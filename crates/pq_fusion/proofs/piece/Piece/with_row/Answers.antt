use Rattle.std.proofs.Common.{◌≡◌, subst, sym, ◌∙◌}
use Rattle.std.specs.Prelude.{IfOk}
use Rattle.pq_fusion.specs.Pieces.{PieceParts}
use Rattle.pq_fusion.proofs.RowByRow.{with_adding, with_taking}
use Rattle.pq_fusion.proofs.piece.Piece.with_row.Goals as goal

pub returns-in-Some : goal.returns-in-Some
returns-in-Some c =
    subst (λ (p : PieceParts). IfOk c.with_added.result (λ (piece : PieceParts). piece ≡ p))
    (with_adding c.args.row c.in-Some.entry c.args.self c.requires.of_kind (sym c.added_entry.ensures ∙ c.in-Some.is)) c.with_added.ensures

pub returns-in-None : goal.returns-in-None
returns-in-None c =
    subst (λ (p : PieceParts). IfOk c.with_taking.result (λ (piece : PieceParts). piece ≡ p))
    (with_taking c.args.row c.args.self c.requires.of_kind (sym c.added_entry.ensures ∙ c.in-None.is)) c.with_taking.ensures
