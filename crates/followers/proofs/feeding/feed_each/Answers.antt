use Rattle.std.proofs.Common.{rules, map, set, add-one}
use Rattle.followers.specs.Followers.{FirstHaveTaken}
use Rattle.followers.specs.TakenLaws.{all_taken, later, one_more, stopped}
use Rattle.followers.proofs.feeding.feed_each.Goals as goal

pub loop-follower-preserved : goal.loop-follower-preserved
loop-follower-preserved g c =
    let now = c.loop-follower.follower-items in
    let i = c.loop-follower.follower-index in
    let before = c.loop-follower.invariant in
    record {
      taken = rw add-one (one_more (λ f. (goal.Follower-dyn g (f.vtable, f.value)).report_after f.value) c.args.event.now i c.args.followers.now now c.follower-item.result c.feed_one.new.follower
          before.taken before.others (search rules) c.in_ok-feed_one.ensures.ok);
      others = later i c.args.followers.now now c.feed_one.new.follower before.others;
    }

pub returns-in_err-feed_one-clause-err : goal.returns-in_err-feed_one-clause-err
returns-in_err-feed_one-clause-err g c =
    let now = c.loop-follower.follower-items in
    let i = c.loop-follower.follower-index in
    let before = c.loop-follower.invariant in
    let part : FirstHaveTaken c.args.event.now (map (λ f. (goal.Follower-dyn g (f.vtable, f.value)).report_after f.value) c.args.followers.now)
    (map (λ f. (goal.Follower-dyn g (f.vtable, f.value)).report_after f.value) (set now i c.feed_one.new.follower)) =
    stopped (λ f. (goal.Follower-dyn g (f.vtable, f.value)).report_after f.value) c.args.event.now i c.args.followers.now now c.follower-item.result c.feed_one.new.follower
    before.taken before.others (search rules) c.in_err-feed_one.ensures.err in
    search rules

pub returns-clause-ok : goal.returns-clause-ok
returns-clause-ok g c =
    all_taken (λ f. (goal.Follower-dyn g (f.vtable, f.value)).report_after f.value) c.args.event.now c.loop-follower.follower-index c.args.followers.now c.loop-follower.follower-items
    c.loop-follower.invariant.taken (search rules) (search rules)
