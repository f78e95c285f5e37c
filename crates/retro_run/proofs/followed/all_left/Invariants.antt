-- Those that are numbered so far, and those to come, are all.
use Rattle.std.proofs.Common.{◌≡◌, ◌++◌, map}
use Rattle.std.specs.Vec.Iter.{into_iter_items}
use Rattle.retro_run.specs.Audience.{audience_by, audience_of}
use Rattle.retro_run.proofs.followed.all_left.Given as goal

abbrev pub invariant-loop-follower : goal.invariant-loop-follower
invariant-loop-follower g l =
    audience_by (λ b. (goal.Follower-dyn g (b.vtable, b.value)).report_after b.value) l.numbered.items
    ++ audience_of (map (λ b. (goal.Follower-dyn g (b.vtable, b.value)).report_after b.value) (into_iter_items l.follower-iterator))
    ≡ audience_of (map (λ b. (goal.Follower-dyn g (b.vtable, b.value)).report_after b.value) l.fn.followers.items)
