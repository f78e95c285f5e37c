use Rattle.std.proofs.Common.{◌≡◌, length, Some, None, sym, ◌∙◌}
use Rattle.reactions.specs.TimelineEffects.{position_of}
use Rattle.timelines.proofs.Memory.{never_refused}
use Rattle.timelines.proofs.TimelineEffects.{lists_now, lists_there, lists_nowhere}
use Rattle.timelines.proofs.named_timeline.NamedTimeline.list.Goals as goal

pub returns-in-Now-clause-ok : goal.returns-in-Now-clause-ok
returns-in-Now-clause-ok g c =
    let place : c.len-place.result ≡ length c.args.self.now.timeline.rows = rw (← c.self.view_is, ← c.timeline.ensures.rows) c.len-place.ensures.length in
    rw (c.in-Now.is, lists_now c.args.self.now.timeline) (rw place at c.list_at.ensures.ok)

pub returns-in-Some-clause-ok : goal.returns-in-Some-clause-ok
returns-in-Some-clause-ok g c =
    let there : position_of c.in-Then.spot c.self-in-Then.inside.session.rows ≡ Some c.in-Some.position = rw c.timeline-in-Then.ensures.rows at (sym c.position_of.ensures.position ∙ c.in-Some.is) in
    rw (c.in-Then.is, lists_there c.args.self.now.timeline c.in-Then.spot c.in-Some.position (rw (← c.self-in-Then.view_is) there)) c.list_at-in-Some.ensures.ok

pub returns-in-None-clause-ok : goal.returns-in-None-clause-ok
returns-in-None-clause-ok g c =
    let nowhere : position_of c.in-Then.spot c.self-in-Then.inside.session.rows ≡ None = rw c.timeline-in-Then.ensures.rows at (sym c.position_of.ensures.position ∙ c.in-None.is) in
    rw (c.in-Then.is, c.no_row.ensures, c.row_named.ensures)
    (sym (lists_nowhere c.args.self.now.timeline c.in-Then.spot (rw (← c.self-in-Then.view_is) nowhere)))

pub returns-in-Now-clause-memory : goal.returns-in-Now-clause-memory
returns-in-Now-clause-memory g c = rw (c.in-Now.is, lists_now c.args.self.now.timeline) (never_refused c.list_at.result)

pub returns-in-Some-clause-memory : goal.returns-in-Some-clause-memory
returns-in-Some-clause-memory g c =
    let there : position_of c.in-Then.spot c.self-in-Then.inside.session.rows ≡ Some c.in-Some.position = rw c.timeline-in-Then.ensures.rows at (sym c.position_of.ensures.position ∙ c.in-Some.is) in
    rw (c.in-Then.is, lists_there c.args.self.now.timeline c.in-Then.spot c.in-Some.position (rw (← c.self-in-Then.view_is) there)) (never_refused c.list_at-in-Some.result)
