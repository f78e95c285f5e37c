use Rattle.std.proofs.Common.{rules, add-one}
use Rattle.followers.specs.TakenLaws.{later}
use Rattle.retro_run.proofs.Handed.{all_taken, one_more}
use Rattle.retro_run.proofs.follow.hand_out.Goals as goal

pub loop-follower-preserved : goal.loop-follower-preserved
loop-follower-preserved g c =
    let now = c.loop-follower.follower-items in
    let i = c.loop-follower.follower-index in
    let before = c.loop-follower.invariant in
    record {
      taken = rw add-one (one_more _ c.args.event.now i c.args.followers.now now c.follower-item.result c.hand_to.new.follower
          before.taken before.others (search rules) c.in_ok-hand_to.ensures);
      others = later i c.args.followers.now now c.hand_to.new.follower before.others;
    }

pub returns : goal.returns
returns g c =
    all_taken _ c.args.event.now c.loop-follower.follower-index c.args.followers.now c.loop-follower.follower-items
    c.loop-follower.invariant.taken (search rules) (search rules)
