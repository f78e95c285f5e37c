use Rattle.std.proofs.Common.{sym, ◌∙◌, ◌+◌, ◌≤◌, arith}
use Rattle.fates.proofs.Windows.{count_along_end, count_along_next, counted_one}
use Rattle.fates.proofs.standing.count_along.Goals as goal

pub loop-row-preserved : goal.loop-row-preserved
loop-row-preserved c =
    let up : c.count_after-count.result ≤ c.args.count + c.loop-row.row-index + 1 =
    counted_one c.args.own _ c.loop-row.count c.count_after-count.result (c.args.count + c.loop-row.row-index) c.count_after-count.ensures c.loop-row.invariant.few in record {
      rest = rw c.count_after-count.ensures (c.loop-row.invariant.rest ∙ count_along_next c.args.own c.args.rows.now c.loop-row.row-index c.loop-row.count _ (omega arith));
      few = omega (arith, up);
    }

pub returns : goal.returns
returns c = sym (c.loop-row.invariant.rest ∙ count_along_end c.args.own c.args.rows.now c.loop-row.row-index c.loop-row.count (omega arith))
