use Rattle.retro_base.specs.Edits.{add}
use Rattle.timelines.proofs.NamedChanges.{noted_pq}
use Rattle.timelines.proofs.reported.note.Goals as goal

pub returns-in-Pq : goal.returns-in-Pq
returns-in-Pq c =
    λ rows made. rw (← noted_pq c.one_change_is_named.ensures.of_pq c.args.name c.args.kind rows (add c.args.place c.args.row) c.args.change c.in-Pq.is made) c.push.ensures.ok
