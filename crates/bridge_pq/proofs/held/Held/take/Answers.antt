use Rattle.std.proofs.Common.{◌∙◌, ap, sym}
use Rattle.bridge_pq.specs.Gathered.{fresh_first}
use Rattle.bridge_pq.proofs.GatheredEntries.{taken_fresh, taken_old}
use Rattle.bridge_pq.proofs.held.Held.take.Goals as goal

pub returns-then-comes_first-clause-taken : goal.returns-then-comes_first-clause-taken
returns-then-comes_first-clause-taken g c =
    rw (← c.self.view_is) (taken_fresh c.self.inside.fresh c.take.new.self c.self.inside.first c.take.result c.self.inside.left.entries c.least.ensures.order c.self.invariant.order c.self.invariant.none
    (ap (λ least. fresh_first least c.self.inside.first) (sym c.least.ensures.least) ∙ sym c.comes_first.ensures ∙ c.if-comes_first.true) c.take.ensures)

pub returns-clause-taken : goal.returns-clause-taken
returns-clause-taken g c =
    rw (← c.self.view_is) (taken_old c.self.inside.fresh c.self.inside.first c.take-self-inside.result c.self.inside.left.entries c.take-self-inside.new.self.entries c.least.ensures.order
    (ap (λ least. fresh_first least c.self.inside.first) (sym c.least.ensures.least) ∙ sym c.comes_first.ensures ∙ c.if-comes_first.false) c.take-self-inside.ensures.taken)
