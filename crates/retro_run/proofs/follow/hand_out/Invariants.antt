use Rattle.std.proofs.Common.{◌≡◌, take, drop}
use Rattle.std.specs.Prelude.{option_map}
use Rattle.retro_run.proofs.Handed.{HaveTaken}
use Rattle.retro_run.proofs.follow.hand_out.Given as goal

abbrev pub invariant-loop-follower : goal.invariant-loop-follower
invariant-loop-follower g l = record {
  taken : HaveTaken (option_map (λ b. (goal.Follower-dyn g (b.vtable, b.value)).report_after b.value)) l.event (take l.follower-index l.fn.followers) (take l.follower-index l.follower-items);
  others : drop l.follower-index l.follower-items ≡ drop l.follower-index l.fn.followers;
}
