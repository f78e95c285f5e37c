use Rattle.std.proofs.Common.{◌∙◌, subst, sym, inl, inr, ◌+◌, arith}
use Rattle.pq_fusion.proofs.Merged.{IsMerged, merge_second, merge_first, merge_ends}
use Rattle.pq_fusion.proofs.merge.merge.Goals as goal
use Rattle.pq_fusion.proofs.merge.merge.Goals.{then-merge-test+else-j-second, else-merge-test}

pub merge-preserved-then-comes_before : goal.merge-preserved-then-comes_before
merge-preserved-then-comes_before c =
    subst (λ both. IsMerged c.args.first.now c.args.second.now both c.merge.i (c.merge.j + 1)) (sym c.in_ok-push.ensures.items)
    (merge_second c.args.first.now c.args.second.now c.merge.both.items c.merge.i c.merge.j c.requires.first c.requires.second c.merge.invariant
    c.merge-test.true c.if-j-second.true _ _ (sym c.if-comes_before.ensures))

pub merge-preserved : goal.merge-preserved
merge-preserved c =
    subst (λ both. IsMerged c.args.first.now c.args.second.now both (c.merge.i + 1) c.merge.j) (sym c.in_ok-push-2.ensures.items)
    (merge_first c.args.first.now c.args.second.now c.merge.both.items c.merge.i c.merge.j c.requires.first c.requires.second c.merge.invariant
    c.merge-test.true c.if-j-second.true _ _ (sym c.if-comes_before.ensures))

pub returns : goal.returns
returns c =
    c.in_ok-extend_from_slice-2.ensures.items
    ∙ rw (c.in_ok-extend_from_slice.ensures.items, c.split_at.ensures.back, c.split_at-2.ensures.back)
    (merge_ends c.args.first.now c.args.second.now c.merge.both.items c.merge.i c.merge.j c.requires.first c.merge.invariant
    (elim c.merge-test.branch [
      | then-merge-test+else-j-second w ↦ inr (omega arith)
      | else-merge-test w ↦ inl (omega arith)
    ]))
