use Rattle.std.proofs.Common.{length}
use Rattle.retro_run.specs.Audience.{audience_by}
use Rattle.retro_run.proofs.Handed.{HandsOn}
use Rattle.retro_run.proofs.follow.hand_on.Given as goal

abbrev pub invariant-loop-rest : goal.invariant-loop-rest
invariant-loop-rest g l =
    HandsOn l.fn.answer l.rest (audience_by (λ b. (goal.Follower-dyn g (b.vtable, b.value)).report_after b.value) l.fn.followers)
    (audience_by (λ b. (goal.Follower-dyn g (b.vtable, b.value)).report_after b.value) l.followers)

abbrev pub decreases-loop-rest : goal.decreases-loop-rest
decreases-loop-rest g l = length l.rest
