use Rattle.timelines.proofs.KeptTimelines.{shown_more, unspent_more}
use Rattle.timelines.proofs.timelines.Timelines.add.Goals as goal

pub invariant_of-self : goal.invariant_of-self
invariant_of-self g c = rw c.in_err-push.ensures.items c.self.invariant

pub invariant_of-self-2 : goal.invariant_of-self-2
invariant_of-self-2 g c = rw c.in_ok-push.ensures.items (unspent_more c.self.inside.timelines.items c.args.timeline c.self.invariant c.requires.unspent)

pub returns-clause-ok : goal.returns-clause-ok
returns-clause-ok g c = rw (← c.self.view_is, c.in_ok-push.ensures.items) (shown_more c.self.inside.timelines.items c.args.timeline)
