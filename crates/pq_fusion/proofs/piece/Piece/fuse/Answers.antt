use Rattle.std.proofs.Common.{◌≡◌, ◌-◌, length, refl, ap, ◌∙◌, sym, subst, arith}
use Rattle.pq_fusion.specs.Pieces.{PieceParts, IsPiece, together}
use Rattle.pq_fusion.proofs.Order.{length_together}
use Rattle.pq_fusion.proofs.Sizes.{made_is, fused_piece, front_order, back_order}
use Rattle.pq_fusion.proofs.piece.Piece.fuse.Goals as goal

pub overflow_sub-met : goal.overflow_sub-met
overflow_sub-met c =
    let met : c.as_slice-met.result.now ≡ together c.left-left.result.now c.removed.result.now = c.as_slice-met.ensures.value ∙ c.in_ok-both.ensures in
    omega (arith, ap length met, length_together c.left-left.result.now c.removed.result.now, c.saturating_sub-kept.ensures)

pub merge-requires-2-clause-second : goal.merge-requires-2-clause-second
merge-requires-2-clause-second c =
    back_order c.left-left.result.now c.removed.result.now _ _ _ c.removed.ensures.order (c.as_slice-met.ensures.value ∙ c.in_ok-both.ensures) c.split_at.ensures.back

pub merge-requires-3-clause-second : goal.merge-requires-3-clause-second
merge-requires-3-clause-second c =
    front_order c.left-left.result.now c.removed.result.now _ _ _ c.removed.ensures.order (c.as_slice-met.ensures.value ∙ c.in_ok-both.ensures) c.split_at.ensures.front

pub merge-requires-3-clause-few : goal.merge-requires-3-clause-few
merge-requires-3-clause-few c =
    let met : c.as_slice-met.result.now ≡ together c.left-left.result.now c.removed.result.now = c.as_slice-met.ensures.value ∙ c.in_ok-both.ensures in
    omega (
      arith,
      ap length met,
      length_together c.left-left.result.now c.removed.result.now,
      c.split_at.ensures.front_len,
      c.split_at.ensures.back_len,
      c.left-left.ensures.few,
      c.removed.ensures.few,
      c.removed-2.ensures.few,
    )

pub invariant_of-result : goal.invariant_of-result
invariant_of-result c =
    subst IsPiece
    (sym (made_is c.args.self.now c.args.later.now c.as_slice-met.result.now c.split_at.result.0.now c.split_at.result.1.now _ _ _ _
    (c.as_slice-met.ensures.value ∙ c.in_ok-both.ensures ∙ rw (c.left-left.ensures.list, c.removed.ensures.list) refl)
    (ap (λ n. length c.as_slice-met.result.now - n) (c.saturating_sub-kept.ensures ∙ rw (c.left-left.ensures.list, ap (λ (p : PieceParts). p.unmet) c.later.view_is) refl))
    c.split_at.ensures.back c.split_at.ensures.front
    (c.in_ok-merge.ensures ∙ ap (λ l. together l c.split_at.result.1.now) c.left.ensures.list)
    (c.in_ok-merge-2.ensures ∙ ap (λ l. together l c.split_at.result.0.now) c.removed-2.ensures.list)
    (rw (c.unmet.ensures.count, c.saturating_sub.ensures, ap (λ (p : PieceParts). p.unmet) c.later.view_is, c.left-left.ensures.list) refl)))
    (fused_piece c.args.self.now c.args.later.now (subst IsPiece c.self.view_is c.self.invariant) (subst IsPiece c.later.view_is c.later.invariant) c.requires.few)

pub returns : goal.returns
returns c =
    made_is c.args.self.now c.args.later.now c.as_slice-met.result.now c.split_at.result.0.now c.split_at.result.1.now _ _ _ _
    (c.as_slice-met.ensures.value ∙ c.in_ok-both.ensures ∙ rw (c.left-left.ensures.list, c.removed.ensures.list) refl)
    (ap (λ n. length c.as_slice-met.result.now - n) (c.saturating_sub-kept.ensures ∙ rw (c.left-left.ensures.list, ap (λ (p : PieceParts). p.unmet) c.later.view_is) refl))
    c.split_at.ensures.back c.split_at.ensures.front
    (c.in_ok-merge.ensures ∙ ap (λ l. together l c.split_at.result.1.now) c.left.ensures.list)
    (c.in_ok-merge-2.ensures ∙ ap (λ l. together l c.split_at.result.0.now) c.removed-2.ensures.list)
    (rw (c.unmet.ensures.count, c.saturating_sub.ensures, ap (λ (p : PieceParts). p.unmet) c.later.view_is, c.left-left.ensures.list) refl)
