use Rattle.std.proofs.Common.{arith, ap, length}
use Rattle.pq_fusion.specs.declared.entry_counts.EntryCounts.{EntryCounts}
use Rattle.pq_fusion.specs.EntryCounts.{reaching}
use Rattle.pq_fusion.proofs.Counted.{fused_length, fused_reaching, same_counts}
use Rattle.pq_fusion.proofs.Searched.{both_searched}
use Rattle.pq_fusion.proofs.entry_counts.EntryCounts.after_piece.Goals as goal

pub returns-clause-counts : goal.returns-clause-counts
returns-clause-counts g c = λ first same.
    let second = c.args.piece.now in
    let left = ap (λ (t : EntryCounts). t.left) same in
    let reached = ap (λ (t : EntryCounts). t.reaching) same in
    same_counts _ _ _ _
    (omega (arith, left, c.len.ensures.count, ap length c.left-left.ensures.list, c.unmet.ensures.count, c.saturating_sub-kept.ensures, fused_length first second))
    (omega (
      arith,
      left,
      reached,
      c.unmet.ensures.count,
      c.saturating_sub-kept.ensures,
      c.min.ensures,
      c.from.ensures,
      c.from-2.ensures,
      c.from-3.ensures,
      c.reaching.ensures.count,
      c.reaching-2.ensures.count,
      ap (reaching c.args.bound) c.left-left.ensures.list,
      ap (reaching c.args.bound) c.removed-removed.ensures.list,
      fused_reaching c.args.bound first second c.removed-removed.ensures.order,
    ))

pub returns-clause-visits : goal.returns-clause-visits
returns-clause-visits g c = λ k small.
    both_searched (length c.removed-removed.result.now) (length c.left-left.result.now) c.args.steps.now c.reaching.new.steps c.reaching-2.new.steps c.reaching.ensures.visits c.reaching-2.ensures.visits
    k (omega (arith, small, ap length c.left-left.ensures.list, ap length c.removed-removed.ensures.list))
