use Rattle.timelines.proofs.named_timeline.NamedTimeline.tell_all.Goals as goal

pub returns-in-Double : goal.returns-in-Double
returns-in-Double g c =
    rw c.in-Double.is (λ rows made. rw (← c.self.view_is, ← c.kind.ensures) (c.reported_both.ensures rows (rw (← c.self.view_is, ← c.kind.ensures) at made)))
