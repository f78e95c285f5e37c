use Rattle.std.proofs.Common.{sym, subst, refl, rules}
use Rattle.structure_tests.proofs.Numbered.{AreBelow, below_with, replayable_next}
use Rattle.structure_tests.proofs.history.History.try_put.Goals as goal

pub insert-requires-clause-replayable : goal.insert-requires-clause-replayable
insert-requires-clause-replayable g c =
    replayable_next (g.R.Retro.kind c.self.inside.structure) (g.R.Retro.rows c.self.inside.structure) c.args.place
    (record { number = c.self.inside.next; time = c.args.time; op = c.args.op })
    c.kind-2.ensures.replayable c.self.invariant (search rules) (search rules) (search rules) (search rules)

pub invariant_of-self-2 : goal.invariant_of-self-2
invariant_of-self-2 g c =
    subst (AreBelow _) (sym c.in_ok-change.ensures.rows)
    (below_with (g.R.Retro.rows c.self.inside.structure) c.args.place c.self.inside.next
    (record { number = c.self.inside.next; time = c.args.time; op = c.args.op }) refl c.self.invariant)
