use Rattle.timelines.proofs.NamedChanges.{reported_two}
use Rattle.timelines.proofs.reported.reported_both.Goals as goal

pub returns-in_ok-push-in-Pq : goal.returns-in_ok-push-in-Pq
returns-in_ok-push-in-Pq c =
    λ rows made. rw (c.evidence_of-in-Pq.ensures, c.in_ok-push-in-Pq.ensures.ok, c.new-more.ensures, c.evidence_of.ensures)
    (reported_two c.one_change_is_named.ensures.of_pq c.args.name c.args.kind rows _ _ c.args.first.change c.args.second.change c.args.plain c.in-Pq.is made.0 made.1)
