use Rattle.std.proofs.lemmas.Result.{IfOk-weaker}
use Rattle.lifetime_segments.proofs.Collected.{collected-few}
use Rattle.lifetime_segments.proofs.segments.Segments.items_at.Goals as goal

pub returns-clause-few : goal.returns-clause-few
returns-clause-few g c = IfOk-weaker c.collected.result _ _
    (λ items is. collected-few g.D.Decomposable.stands_before c.args.label c.self.inside.held items.items c.self.invariant.few (is c.self.inside.held c.self.invariant.is_of)) c.collected.ensures
