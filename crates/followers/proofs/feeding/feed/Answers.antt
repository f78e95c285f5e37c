-- What was done to the followers as a slice was done to them.
use Rattle.std.proofs.Common.{rules}
use Rattle.followers.specs.TakenLaws.{written_back}
use Rattle.followers.proofs.feeding.feed.Goals as goal

pub returns-clause-ok : goal.returns-clause-ok
returns-clause-ok g c =
    rw (written_back c.args.followers.now.items c.feed_each.new.followers c.args.followers.now.len (search rules) (search rules))
    (rw c.deref_mut.ensures.value at c.feed_each.ensures.ok)
