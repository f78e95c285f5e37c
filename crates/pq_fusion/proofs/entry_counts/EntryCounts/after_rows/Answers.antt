use Rattle.std.proofs.Common.{◌≡◌, refl, arith}
use Rattle.pq_fusion.specs.EntryCounts.{counts_of}
use Rattle.pq_fusion.proofs.Carried.{carries_more, carries_all}
use Rattle.pq_fusion.proofs.FromRows.{no_more}
use Rattle.pq_fusion.proofs.Searched.{no_change, no_more_than, visits_more}
use Rattle.pq_fusion.proofs.entry_counts.EntryCounts.after_rows.Goals as goal

pub loop-row-init : goal.loop-row-init
loop-row-init g c =
    (λ piece rising same. rw (no_more piece) same, omega arith, no_change _ _ refl)

pub loop-row-preserved : goal.loop-row-preserved
loop-row-preserved g c = (
  carries_more (λ entries. c.args.self ≡ counts_of c.args.bound entries) (λ entries. c.loop-row.counts ≡ counts_of c.args.bound entries)
      (λ entries. c.after_row-counts.result ≡ counts_of c.args.bound entries) c.args.rows.now c.loop-row.row-index _ c.loop-row-test.true c.loop-row.invariant.0
      (rw (c.row.ensures, c.row-item.is) at c.after_row-counts.ensures.counts),
  omega (arith, c.loop-row.invariant.1, c.after_row-counts.ensures.few),
  visits_more _ _ _ _ c.tick.ensures c.loop-row.invariant.2,
)

pub returns-clause-counts : goal.returns-clause-counts
returns-clause-counts g c =
    carries_all (λ entries. c.args.self ≡ counts_of c.args.bound entries) (λ entries. c.loop-row.counts ≡ counts_of c.args.bound entries) c.args.rows.now
    c.loop-row.row-index (omega (arith, c.loop-row.auto.row-index-end, c.loop-row-test.false)) c.loop-row.invariant.0

pub returns-clause-few : goal.returns-clause-few
returns-clause-few g c = omega (arith, c.loop-row.invariant.1, c.loop-row.auto.row-index-end)

pub returns-clause-visits : goal.returns-clause-visits
returns-clause-visits g c = no_more_than c.loop-row.row-index _ _ _ c.loop-row.auto.row-index-end c.loop-row.invariant.2
