use Rattle.std.proofs.Common.{ap, refl}
use Rattle.timelines.specs.Kept.{named}
use Rattle.timelines.proofs.Memory.{redo_memory, redone_memory}
use Rattle.timelines.proofs.TimelineEffects.{left_by_nothing, redoes_nothing, redone_told}
use Rattle.timelines.proofs.named_timeline.NamedTimeline.redo.Goals as goal

pub returns-in-Ok-clause-ok : goal.returns-in-Ok-clause-ok
returns-in-Ok-clause-ok g c =
    let found = c.in-Ok.ensures.step in
    rw (← c.self.view_is)
    (redone_told c.tell_all.result (named c.self.inside.name c.self.inside.session) _ _ found.0 (ap (named c.self.inside.name) found.1)
    (rw found.1 at (c.tell_all.ensures c.self.inside.session.rows (rw found.1 c.in-Ok.ensures.made))))

pub returns-in-Err-Nothing-clause-ok : goal.returns-in-Err-Nothing-clause-ok
returns-in-Err-Nothing-clause-ok g c =
    rw (← c.self.view_is, left_by_nothing _ _ _ _ c.in-Err-Nothing.field-0-is c.in-Err-Nothing.ensures.err, c.refused.ensures)
    (redoes_nothing _ (c.in-Err-Nothing.ensures.nothing.0 (rw c.in-Err-Nothing.field-0-is refl)))

pub returns-in-Ok-clause-memory : goal.returns-in-Ok-clause-memory
returns-in-Ok-clause-memory g c =
    let found = c.in-Ok.ensures.step in
    rw (← c.self.view_is) (redone_memory c.tell_all.result (named c.self.inside.name c.self.inside.session) _ found.0)

pub returns-in-Err-NoMemory-clause-memory : goal.returns-in-Err-NoMemory-clause-memory
returns-in-Err-NoMemory-clause-memory g c =
    rw (← c.self.view_is) (redo_memory c.self.inside.name c.self.inside.session _ c.in-Err-NoMemory.field-0 c.in-Err-NoMemory.field-0-is c.in-Err-NoMemory.ensures.err)
