use Rattle.std.proofs.Common.{sym, ◌∙◌}
use Rattle.retro_base.specs.Edits.{cut}
use Rattle.timelines.specs.Kept.{named}
use Rattle.reactions.specs.declared.outcome.Outcome.TheVariants.{Accepted}
use Rattle.timelines.proofs.Memory.{delete_memory}
use Rattle.timelines.proofs.TimelineEffects.{deletes_nothing, deletes_there, deletes_refused, edits_accepted}
use Rattle.timelines.proofs.named_timeline.NamedTimeline.delete.Goals as goal

pub returns-in_default-clause-ok : goal.returns-in_default-clause-ok
returns-in_default-clause-ok g c =
    rw (← c.self.view_is, c.no_row.ensures)
    (deletes_nothing _ c.args.number (rw c.timeline.ensures.rows at (sym c.place_of.ensures.place ∙ c.in_default.is)))

pub returns-in-Ok-clause-ok : goal.returns-in-Ok-clause-ok
returns-in-Ok-clause-ok g c =
    let there = rw c.timeline.ensures.rows at (sym c.place_of.ensures.place ∙ c.in-Some.is) in
    let t = named c.self.inside.name c.self.inside.session in
    let done = c.in-Ok.ensures in
    rw (← c.self.view_is, c.tell.ensures c.self.inside.session.rows (rw done.session done.made), done.reported, done.session)
    (deletes_there t c.args.number c.in-Some.place _ there done.row ∙ edits_accepted t (cut c.in-Some.place _) t.next Accepted done.accepted)

pub returns-in-Err-clause-ok : goal.returns-in-Err-clause-ok
returns-in-Err-clause-ok g c =
    let there = rw c.timeline.ensures.rows at (sym c.place_of.ensures.place ∙ c.in-Some.is) in
    rw (← c.self.view_is, c.in-Err.ensures.err)
    (deletes_refused _ c.args.number c.in-Some.place _ _ there (rw c.timeline.ensures.rows at c.in-Some.ensures.within) c.in-Err.ensures.cause c.refused_by.ensures)

pub returns-in-Err-clause-memory : goal.returns-in-Err-clause-memory
returns-in-Err-clause-memory g c =
    let there = rw c.timeline.ensures.rows at (sym c.place_of.ensures.place ∙ c.in-Some.is) in
    rw (← c.self.view_is)
    (delete_memory _ c.args.number c.in-Some.place _ _ there (rw c.timeline.ensures.rows at c.in-Some.ensures.within) c.in-Err.ensures.cause c.refused_by.ensures)
