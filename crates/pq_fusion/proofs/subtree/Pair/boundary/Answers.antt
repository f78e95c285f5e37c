use Rattle.std.proofs.Common.{subst}
use Rattle.pq_fusion.specs.Searches.{SearchesBoth}
use Rattle.pq_fusion.proofs.Walked.{boundary_visits}
use Rattle.pq_fusion.proofs.subtree.Pair.boundary.Goals as goal

pub returns-clause-visits : goal.returns-clause-visits
returns-clause-visits g c =
    let first = c.in-Some-Some.first.now in
    let second = c.in-Some-Some.second.now in
    boundary_visits c.args.self.now.earlier.rows c.args.self.now.later.rows first second c.args.steps.now c.boundary.new.steps c.in-Some-Some.ensures c.in-Some-Some.ensures'
    (subst (λ l. SearchesBoth 6 first.left l c.args.steps.now c.boundary.new.steps) c.removed.ensures.list
    (subst (λ l. SearchesBoth 6 l c.removed.result.now c.args.steps.now c.boundary.new.steps) c.left.ensures.list c.boundary.ensures.visits))
