use Rattle.std.proofs.Common.{ap, ◌∙◌, arith}
use Rattle.evidence_check.proofs.Walks.{best_next, best_of_none, left_next}
use Rattle.evidence_check.proofs.search.best_among.Goals as goal

pub loop-part-init : goal.loop-part-init
loop-part-init g c = (omega arith, best_of_none c.args.sought c.args.place)

pub loop-part-preserved : goal.loop-part-preserved
loop-part-preserved g c = (
  c.beyond-left.ensures ∙ left_next g.P.Part.rows c.args.parts.now c.loop-part.part-index c.part-item.result c.loop-part-test.true c.part-item.is c.args.place c.loop-part.left c.sums.result.rows c.loop-part.invariant.0 (ap (λ s. s.rows) c.sums.ensures),
  c.better_of-best.ensures
      ∙ best_next g.P.Part.rows c.args.parts.now c.loop-part.part-index c.part-item.result c.loop-part-test.true c.part-item.is c.args.sought c.args.place c.loop-part.left c.loop-part.best c.best.result c.loop-part.invariant.0 c.loop-part.invariant.1 c.best.ensures,
)
