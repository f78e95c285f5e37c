use Rattle.std.proofs.Common.{◌≡◌, ◌-◌, drop, length, ap, ◌∙◌, refl, subst, arith, IfOk}
use Rattle.pq_fusion.specs.Pieces.{together, met, kept, fuse}
use Rattle.pq_fusion.proofs.Order.{length_together}
use Rattle.pq_fusion.proofs.Sizes.{back_order}
use Rattle.pq_fusion.proofs.piece.Piece.left_after.Goals as goal

pub overflow_sub-len : goal.overflow_sub-len
overflow_sub-len c =
    let merged : c.deref.result.now ≡ together c.args.before.now c.removed.result.now = c.deref.ensures.value ∙ c.in_ok-met.ensures in
    omega (
      arith,
      ap length merged,
      length_together c.args.before.now c.removed.result.now,
      c.len.ensures,
      c.deref.ensures.len,
      c.saturating_sub-kept.ensures,
    )

pub merge-requires-2-clause-second : goal.merge-requires-2-clause-second
merge-requires-2-clause-second c =
    back_order c.args.before.now c.removed.result.now _ _ _ c.removed.ensures.order (c.deref.ensures.value ∙ c.in_ok-met.ensures) c.split_at.ensures.back

pub merge-requires-2-clause-few : goal.merge-requires-2-clause-few
merge-requires-2-clause-few c =
    let merged : c.deref.result.now ≡ together c.args.before.now c.removed.result.now = c.deref.ensures.value ∙ c.in_ok-met.ensures in
    omega (
      arith,
      ap length merged,
      length_together c.args.before.now c.removed.result.now,
      c.split_at.ensures.front_len,
      c.split_at.ensures.back_len,
      c.requires.few,
      c.removed.ensures.few,
      c.left.ensures.few,
    )

pub returns : goal.returns
unfolding fuse
returns c = λ first same.
    let second = c.args.self.now in
    let merged : c.deref.result.now ≡ met first second = c.deref.ensures.value ∙ c.in_ok-met.ensures ∙ rw (same, c.removed.ensures.list) refl in
    let place : c.len.result - c.saturating_sub-kept.result ≡ length (met first second) - kept first second =
    omega (arith, c.len.ensures, c.deref.ensures.len, ap length merged, ap length same, c.saturating_sub-kept.ensures, c.unmet.ensures.count) in
    let staying : c.split_at.result.1.now ≡ drop (length (met first second) - kept first second) (met first second) =
    c.split_at.ensures.back ∙ ap (drop (c.len.result - c.saturating_sub-kept.result)) merged ∙ ap (λ n. drop n (met first second)) place in
    subst (λ l. IfOk c.merge-2.result (λ left. left.items ≡ l))
    (ap (λ l. together l c.split_at.result.1.now) c.left.ensures.list ∙ ap (together second.left) staying)
    c.merge-2.ensures
