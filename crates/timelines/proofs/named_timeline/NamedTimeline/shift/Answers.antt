use Rattle.std.proofs.Common.{sym, ◌∙◌}
use Rattle.timelines.proofs.Memory.{shifts_memory}
use Rattle.timelines.proofs.TimelineEffects.{shifted_ok, shifts_nothing}
use Rattle.timelines.proofs.named_timeline.NamedTimeline.shift.Goals as goal

pub returns-in-None-clause-ok : goal.returns-in-None-clause-ok
returns-in-None-clause-ok g c =
    rw (← c.self.view_is, c.no_row.ensures)
    (shifts_nothing _ c.args.number c.args.target (rw c.timeline.ensures.rows at (sym c.place_of.ensures.place ∙ c.in-None.is)))

pub returns-in-Some-clause-ok : goal.returns-in-Some-clause-ok
returns-in-Some-clause-ok g c =
    rw (← c.self.view_is)
    (shifted_ok c.shift_at.result _ _ c.args.number c.in-Some.place c.args.target (rw c.timeline.ensures.rows at (sym c.place_of.ensures.place ∙ c.in-Some.is))
    (rw c.timeline.ensures.rows at c.in-Some.ensures.within) (rw (← c.self.view_is) at c.shift_at.ensures.ok))

pub returns-in-Some-clause-memory : goal.returns-in-Some-clause-memory
returns-in-Some-clause-memory g c =
    rw (← c.self.view_is)
    (shifts_memory c.shift_at.result _ c.args.number c.in-Some.place c.args.target (rw c.timeline.ensures.rows at (sym c.place_of.ensures.place ∙ c.in-Some.is))
    (rw c.timeline.ensures.rows at c.in-Some.ensures.within) (rw (← c.self.view_is) at c.shift_at.ensures.memory))
