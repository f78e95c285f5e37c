use Rattle.bridge_pq.proofs.GatheredEntries.{beyond_passed, held_further}
use Rattle.bridge_pq.proofs.held.Held.pass.Goals as goal

pub invariant_of-self : goal.invariant_of-self
invariant_of-self g c =
    held_further c.args.count c.self.inside.first c.take-self-inside.result c.self.inside.left.entries c.pass.new.self.entries c.take-self-inside.new.self.entries c.self.invariant c.if-count-gt0.true
    c.pass.ensures.passed c.take-self-inside.ensures.taken

pub returns-then-count-gt0-clause-beyond : goal.returns-then-count-gt0-clause-beyond
returns-then-count-gt0-clause-beyond g c =
    rw (← c.self.view_is) (λ index few. beyond_passed c.args.count c.self.inside.first c.take-self-inside.result c.self.inside.fresh c.self.inside.left.entries c.pass.new.self.entries c.take-self-inside.new.self.entries index c.self.invariant
    c.if-count-gt0.true c.pass.ensures.passed c.take-self-inside.ensures.taken few)
