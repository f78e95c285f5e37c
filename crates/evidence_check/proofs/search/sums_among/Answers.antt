use Rattle.std.proofs.Common.{◌≤◌, length, ap, ◌∙◌, arith}
use Rattle.std.specs.List.{flat_map}
use Rattle.retro_base.specs.Limits.{most_rows}
use Rattle.evidence_check.proofs.SumsJoined.{sums-bounded}
use Rattle.evidence_check.proofs.Walks.{fits, sums_next}
use Rattle.evidence_check.proofs.search.sums_among.Goals as goal

pub join-sums-requires-clause-bounded : goal.join-sums-requires-clause-bounded
join-sums-requires-clause-bounded g c = rw c.loop-part.invariant (sums-bounded _)

pub join-sums-requires-clause-other : goal.join-sums-requires-clause-other
join-sums-requires-clause-other g c = rw c.sums.ensures (sums-bounded _)

pub join-sums-requires-clause-few : goal.join-sums-requires-clause-few
join-sums-requires-clause-few g c =
    let less = fits g.P.Part.rows c.args.parts.now c.loop-part.part-index c.part-item.result c.loop-part-test.true c.part-item.is in
    let few : length (flat_map g.P.Part.rows c.args.parts.now) ≤ most_rows = c.requires in
    omega (arith, less, few, ap (λ s. s.rows) c.loop-part.invariant, ap (λ s. s.rows) c.sums.ensures)

pub loop-part-preserved : goal.loop-part-preserved
loop-part-preserved g c = c.join-sums.ensures ∙ sums_next g.P.Part.rows c.args.parts.now c.loop-part.part-index c.part-item.result c.loop-part-test.true c.part-item.is c.loop-part.sums c.sums.result c.loop-part.invariant c.sums.ensures
