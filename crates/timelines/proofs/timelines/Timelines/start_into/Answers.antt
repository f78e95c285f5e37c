use Rattle.timelines.proofs.AnsweredLine.{told_by}
use Rattle.timelines.proofs.timelines.Timelines.start_into.Goals as goal

pub returns : goal.returns
returns g c =
    told_by c.tell.result _ c.start.new.self c.in_ok-start.field-0 c.tell.new.answer c.in_ok-start.ensures.ok
    (rw c.requires.empty at c.tell.ensures.answer) c.tell.ensures.refused
