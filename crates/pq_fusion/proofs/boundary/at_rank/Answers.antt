use Rattle.std.proofs.Common.{◌-◌, ◌∙◌, ap, arith, sym}
use Rattle.pq_fusion.specs.Bounds.{at_rank, lower}
use Rattle.pq_fusion.specs.Pieces.{together}
use Rattle.pq_fusion.proofs.Order.{length_together}
use Rattle.pq_fusion.proofs.Ranked.{AreSplit, at_end, rank_of_split}
use Rattle.pq_fusion.proofs.boundary.at_rank.Goals as goal

pub returns-then-rank-len-clause-entry : goal.returns-then-rank-len-clause-entry
returns-then-rank-len-clause-entry g c =
    sym (at_end (together c.args.first.now c.args.second.now) c.args.rank
    (omega (arith, length_together c.args.first.now c.args.second.now, c.len.ensures.count, c.len-2.ensures.count)))

pub returns-clause-entry : goal.returns-clause-entry
returns-clause-entry g c =
    let own = c.split_at_rank-own.result in
    let parts : AreSplit c.args.first.now c.args.second.now own (c.args.rank - own) = record {
      first = c.split_at_rank-own.ensures.first;
      second = c.split_at_rank-own.ensures.second;
      lesser = c.split_at_rank-own.ensures.lesser;
      greater = c.split_at_rank-own.ensures.greater;
    } in
    c.lower.ensures ∙ ap (λ b. lower b c.bound_at-2.result) c.bound_at.ensures.entry ∙ ap (lower (at_rank c.args.first.now own)) c.bound_at-2.ensures.entry
    ∙ sym (rank_of_split c.args.rank c.args.first.now c.args.second.now own (c.args.rank - own) (omega (arith, c.split_at_rank-own.ensures.within)) c.len.ensures.order c.len-2.ensures.order parts)
