use Rattle.timelines.proofs.NamedChanges.{reported_pq}
use Rattle.timelines.proofs.reported.reported.Goals as goal

pub returns-in-Pq : goal.returns-in-Pq
returns-in-Pq c =
    λ rows made. rw (c.evidence_of.ensures, c.new.ensures) (reported_pq c.one_change_is_named.ensures.of_pq c.args.name c.args.kind rows _ c.args.turn.change c.args.plain c.in-Pq.is made)
