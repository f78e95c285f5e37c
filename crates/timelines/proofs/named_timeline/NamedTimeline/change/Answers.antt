use Rattle.std.proofs.Common.{sym, ◌∙◌}
use Rattle.timelines.proofs.TimelineEffects.{changes_into, changes_other_kind}
use Rattle.timelines.proofs.named_timeline.NamedTimeline.change.Goals as goal

pub returns-then-not-takes-clause-ok : goal.returns-then-not-takes-clause-ok
returns-then-not-takes-clause-ok g c = rw c.refused.ensures (changes_other_kind c.args.self.now.timeline c.args.number c.args.op (sym c.takes.ensures ∙ c.if-not-takes.true))

pub returns-clause-ok : goal.returns-clause-ok
returns-clause-ok g c = rw (changes_into c.args.self.now.timeline c.args.number c.args.op (sym c.takes.ensures ∙ c.if-not-takes.false)) c.shift.ensures.ok

pub returns-clause-memory : goal.returns-clause-memory
returns-clause-memory g c = rw (changes_into c.args.self.now.timeline c.args.number c.args.op (sym c.takes.ensures ∙ c.if-not-takes.false)) c.shift.ensures.memory
